-- Which words the options of a level are, by clap's account of a parse.
use Rattle.std.proofs.Common.{◌≡◌, ◌∙◌, ◌⊎◌, ◌<◌, arith, inl, inr, ap, refl, sym, subst, ap₂, codes, true, false, Bool, ℕ, zero, suc, List, [], ◌∷◌, ◌++◌, Option, Some, None, length, append-nil, if◌then◌else◌}
use Rattle.std.specs.Prelude.{IfSome, fold, nat_lt, slice_get}
use Rattle.std.specs.Option.{option_map_or}
use Rattle.std.specs.Str.{bytes_eq, chars}
use Rattle.std.proofs.lemmas.List.{append_assoc}
use Rattle.std.proofs.lemmas.Slice.Eq.{bytes_eq-Decides}
use Rattle.clap.specs.Lexer.{long_of, short_of}
use Rattle.clap.specs.Kinds.{Kinds, or_else}
use Rattle.clap.specs.Walk.{Held, Row, Rule, Step, Text, Waiting, Walk, after_flag, after_step, arg_by_long, idle, long_met, long_or_other, next, nothing_held, option, option_word, plain_word, positional, settled_rows, short_or_plain, trailing, used, used_by_id, value, walk_from, walked}
use Rattle.clap.specs.Simple.{Shape, filled}
use Rattle.clap.specs.Faults.{bundle_fault, flag_word_fault, level_fault, long_fault, option_fault, react_fault, settle_fault, step_fault, turn_fault, use_fault, walk_fault}
use Rattle.mdl_words.specs.Words.{flag_rule, value_rule}
use Rattle.mdl_words.proofs.Levels.{IsEnd, Level, shape_of, start}
use Rattle.mdl_words.proofs.LongOptions.{spelled, spelled_with}
use Rattle.mdl_words.proofs.ShortOptions.{dash, held, help_if, help_refused, neither, refuses, short_empty, short_stray}

-- a text in a word of its own is no bundle of short options
abbrev pub IsNoBundle : Text → Type 0
IsNoBundle t = IfSome (short_of t) (λ flags. slice_get (chars flags) 0 ≡ None)

module _ (l : Level) where
  abbrev pub flag_rule_of : l.Flag → Rule
  flag_rule_of f = filled (flag_rule (l.flag_id f))

  abbrev pub value_rule_of : l.Valued → Rule
  value_rule_of o = filled (value_rule (l.value_id o) (l.parser_of o) (l.defaults_of o))

  abbrev pub flag_words : l.Flag → Text
  flag_words f = codes "--" ++ l.flag_id f

  abbrev pub value_words : l.Valued → Text
  value_words o = codes "--" ++ l.value_id o

  abbrev pub level : Text → Shape
  level name = shape_of name l.rules

  -- a use of an option: of one without a value, or of one with this text
  abbrev pub Use : Type 0
  Use = l.Flag ⊎ (l.Valued × Text)

  abbrev pub rule_used : Use → Rule
  rule_used (inl f) = flag_rule_of f
  rule_used (inr p) = value_rule_of p.0

  abbrev pub values_used : Use → List Text
  values_used (inl f) = []
  values_used (inr p) = p.1 ∷ []

  -- its words
  abbrev pub Spells : Use → List Text → Type 0
  Spells (inl f) words = words ≡ flag_words f ∷ []
  Spells (inr p) words = (words ≡ (codes "--" ++ l.value_id p.0 ++ codes "=" ++ p.1) ∷ []) ⊎ ((words ≡ value_words p.0 ∷ p.1 ∷ []) × IsNoBundle p.1)

  -- the rows once it was used, and why it is refused
  abbrev pub rows_used : Use → List Row → List Row
  rows_used u rows = used (rule_used u) (values_used u) rows

  abbrev pub fault_used : Use → List Row → Kinds
  fault_used u rows = use_fault false (rule_used u) (values_used u) rows

  -- ---- where a walk stands

  -- the option has these texts so far
  abbrev pub has : l.Valued → List Text → Option (Text × List Text)
  has o texts = Some (l.value_id o, texts)

  abbrev pub at : List Row → Option (Text × List Text) → Waiting → Walk
  at rows pending waiting = record { held = held rows pending; waiting = waiting; position = 1; is_trailing = false; stopped = None }

  abbrev pub waits_for : l.Valued → List Row → Walk
  waits_for o rows = at rows (has o []) (option (l.value_id o))

  -- what is found once what is pending is used
  abbrev pub found : List Row → Option (Text × List Text) → List Row
  found rows pending = settled_rows l.rules pending rows

  -- what a word is, from whether it is `--`, and its name if it is a long option
  abbrev pub met_by : Waiting → Held → Text → Bool → Option (Text × Option Text) → Held × Step
  met_by waiting h w b o = if b then (h, trailing 1) else long_or_other l.rules waiting w o h

  -- the walk behind a flag, behind a word that gives an option its text, and behind the word of the option alone
  pub flag_walked : (f : l.Flag) (rows : List Row) (pending : Option (Text × List Text))
      → walked l.rules [] (at rows pending idle) (flag_words f) ≡ at (rows_used (inl f) (found rows pending)) None idle
  unfolding walked
  flag_walked f rows pending =
      let w = flag_words f in
      let h = held rows pending in
      ap₂ (λ b v. after_step l.rules w (at rows pending idle) (met_by idle h w b v).0 (met_by idle h w b v).1) (l.flag_dash f) (l.flag_word f)
      ∙ ap (λ r. after_step l.rules w (at rows pending idle) (after_flag l.rules idle w (long_met l.rules r None h).0 (long_met l.rules r None h).1).0
      (after_flag l.rules idle w (long_met l.rules r None h).0 (long_met l.rules r None h).1).1) (l.flag_long f)

  pub one_walked : (o : l.Valued) (rows : List Row) (pending : Option (Text × List Text)) (t : Text)
      → walked l.rules [] (at rows pending idle) (codes "--" ++ l.value_id o ++ codes "=" ++ t) ≡ at (rows_used (inr (o, t)) (found rows pending)) None idle
  unfolding walked
  one_walked o rows pending t =
      let w = codes "--" ++ l.value_id o ++ codes "=" ++ t in
      let h = held rows pending in
      ap₂ (λ b v. after_step l.rules w (at rows pending idle) (met_by idle h w b v).0 (met_by idle h w b v).1) (l.with_dash o t) (l.value_with o t)
      ∙ ap (λ r. after_step l.rules w (at rows pending idle) (after_flag l.rules idle w (long_met l.rules r (Some t) h).0 (long_met l.rules r (Some t) h).1).0
      (after_flag l.rules idle w (long_met l.rules r (Some t) h).0 (long_met l.rules r (Some t) h).1).1) (l.value_long o)

  pub first_walked : (o : l.Valued) (rows : List Row) (pending : Option (Text × List Text))
      → walked l.rules [] (at rows pending idle) (value_words o) ≡ waits_for o (found rows pending)
  unfolding walked
  first_walked o rows pending =
      let w = value_words o in
      let h = held rows pending in
      ap₂ (λ b v. after_step l.rules w (at rows pending idle) (met_by idle h w b v).0 (met_by idle h w b v).1) (l.value_dash o) (l.value_word o)
      ∙ ap (λ r. after_step l.rules w (at rows pending idle) (after_flag l.rules idle w (long_met l.rules r None h).0 (long_met l.rules r None h).1).0
      (after_flag l.rules idle w (long_met l.rules r None h).0 (long_met l.rules r None h).1).1) (l.value_long o)

  pub given_found : (o : l.Valued) (rows : List Row) (t : Text) → found rows (has o (t ∷ [])) ≡ rows_used (inr (o, t)) rows
  given_found o rows t = ap (λ r. used_by_id r (t ∷ []) rows) (l.value_by_id o)

  -- a word that is no flag is the text that an option waits for
  pub taken_up : (o : l.Valued) (rows : List Row) (w : Text) → bytes_eq w dash ≡ false → long_of w ≡ None
      → short_or_plain l.rules (option (l.value_id o)) w (short_of w) (held rows (has o [])) ≡ plain_word l.rules (option (l.value_id o)) w (held rows (has o []))
      → walked l.rules [] (waits_for o rows) w ≡ at rows (has o (w ∷ [])) idle
  unfolding walked
  taken_up o rows w no_dash no_long plain =
      let h = held rows (has o []) in
      let id = l.value_id o in
      let walk = waits_for o rows in
      ap₂ (λ b v. after_step l.rules w walk (met_by (option id) h w b v).0 (met_by (option id) h w b v).1) no_dash no_long
      ∙ ap (λ (p : Held × Step). after_step l.rules w walk p.0 p.1) plain
      ∙ ap (λ r. after_step l.rules w walk (option_word r id w h).0 (next (option_word r id w h).1)) (l.value_by_id o)
      ∙ ap (λ b. record walk { held = held rows (has o (w ∷ [])); waiting = if nat_lt (if b then 1 else 0) 1 then option id else idle }) (l.value_self o)

  -- ---- all words

  -- what is held behind words
  abbrev pub held_behind : Walk → List Text → Held
  held_behind w words = (fold (walked l.rules []) w words).held

  -- the words are those of these uses in turn over these rows, of which none is refused, and leave others
  abbrev pub AreUses : List Use → List Text → List Row → List Row → Type 0
  AreUses [] words old new = (words ≡ []) × (new ≡ old)
  AreUses (u ∷ more) words old new = (first rest : List Text) × (words ≡ first ++ rest) × Spells u first × (fault_used u old ≡ [])
      × AreUses more rest (rows_used u old) new

  -- what is found of what is held
  abbrev pub found_in : Held → List Row
  found_in h = settled_rows l.rules h.pending h.rows

  -- the words are those of uses, and of an end, and this is found behind them
  abbrev pub AskForUses : List Row → List Text → Held → Type 0
  AskForUses rows words last = (uses : List Use) × (front end : List Text) × (after : List Row) × (words ≡ front ++ end) × AreUses uses front rows after × IsEnd end
      × (found_in last ≡ after)

  -- the words of a level, with what is found behind them
  abbrev pub AreUsed : List Text → Type 0
  AreUsed words = AskForUses [] words (held_behind start words)

  module _ (name : Text) where
    -- the kinds of error of the words to come, and of what is held behind them
    abbrev pub faults : Walk → List Text → Kinds
    faults w words = or_else (walk_fault (level name) [] w words) (settle_fault l.rules false (fold (walked l.rules []) w words).held)

    -- ---- one word

    -- a flag is not refused
    abbrev FlagPasses : l.Flag → Option Text → Held → Type 0
    FlagPasses f v h = (v ≡ None) × (react_fault l.rules false (flag_rule_of f) [] h ≡ [])

    -- a word is an option's, perhaps with a value, and is not refused
    abbrev IsOption : Held → Text → Type 0
    IsOption h w = ((f : l.Flag) × (v : Option Text) × (long_of w ≡ Some (l.flag_id f, v)) × FlagPasses f v h)
        ⊎ ((o : l.Valued) × (v : Option Text) × (long_of w ≡ Some (l.value_id o, v)) × (option_fault l.rules false (value_rule_of o) v h ≡ []))

    flag_passes : (f : l.Flag) (v : Option Text) (h : Held) → long_fault l.rules false (Some (flag_rule_of f)) v h ≡ [] → FlagPasses f v h
    flag_passes f None h e = (refl, e)
    flag_passes f (Some v) h e = absurd (refuses _ _ e)

    help_long : (b : Bool) (v : Option Text) (h : Held) → long_fault l.rules false (help_if b) v h ≡ [] → ⊥
    help_long true None h e = help_refused l.rules h e
    help_long true (Some v) h e = refuses _ _ e
    help_long false v h e = refuses _ _ e

    -- the rule that a long name has
    of_rule : (n : Text) (r s : Option Rule) (v : Option Text) (h : Held) → r ≡ s → long_fault l.rules false r v h ≡ [] → long_fault l.rules false s v h ≡ []
    of_rule n r s v h same e = subst (λ r. long_fault l.rules false r v h ≡ []) same e

    long_by : (h : Held) (w : Text) (p : Text × Option Text) → long_of w ≡ Some p → long_fault l.rules false (arg_by_long l.rules p.0) p.1 h ≡ [] → IsOption h w
    long_by h w p is e = elim (l.by_long p.0) [
      | inl (f, name) ↦ inl (
        f,
        p.1,
        is ∙ ap (λ n. Some (n, p.1)) (sym name),
        flag_passes f p.1 h (of_rule p.0 _ _ p.1 h (ap (arg_by_long l.rules) (sym name) ∙ l.flag_long f) e),
      )
      | inr (inl (o, name)) ↦ inr (o, p.1, is ∙ ap (λ n. Some (n, p.1)) (sym name), of_rule p.0 _ _ p.1 h (ap (arg_by_long l.rules) (sym name) ∙ l.value_long o) e)
      | inr (inr (b, help)) ↦ absurd (help_long b p.1 h (of_rule p.0 _ _ p.1 h help e))
    ]

    -- the word is no flag, and what waits for it takes it
    abbrev IsPlain : Held → Waiting → Text → Type 0
    IsPlain h waiting w = (bytes_eq w dash ≡ false) × (long_of w ≡ None) × IsNoBundle w
        × (short_or_plain l.rules waiting w (short_of w) h ≡ plain_word l.rules waiting w h)
        × (step_fault (level name) 1 (plain_word l.rules waiting w h).0 (plain_word l.rules waiting w h).1 ≡ [])

    -- a word that is not refused, where b says whether it is `--`
    word_by : (rows : List Row) (pending : Option (Text × List Text)) (waiting : Waiting) (b : Bool) (o : Option (Text × Option Text)) (w : Text)
        → bytes_eq w dash ≡ b → long_of w ≡ o
        → or_else (if b then [] else flag_word_fault l.rules false o w (held rows pending))
        (step_fault (level name) 1 (met_by waiting (held rows pending) w b o).0 (met_by waiting (held rows pending) w b o).1) ≡ []
        → (w ≡ dash) ⊎ (IsOption (held rows pending) w ⊎ IsPlain (held rows pending) waiting w)
    word_by rows pending waiting true o w is_dash is e = inl ((bytes_eq-Decides w dash).0 is_dash)
    word_by rows pending waiting false (Some p) w is_dash is e =
        inr (inl (long_by (held rows pending) w p is (neither (flag_word_fault l.rules false (Some p) w (held rows pending)) _ e).0))
    word_by rows pending waiting false None w is_dash is e =
        let parts = neither (flag_word_fault l.rules false None w (held rows pending)) _ e in
        let plain = short_stray l.rules l.short rows pending waiting (short_of w) w parts.0 in
        inr (inr (
          is_dash,
          is,
          short_empty l.rules l.short rows pending (short_of w) parts.0,
          plain,
          subst (λ (p : Held × Step). step_fault (level name) 1 p.0 p.1 ≡ []) plain parts.1,
        ))

    -- a word that only a positional could take is refused
    stray : (h : Held) → step_fault (level name) 1 h value ≡ [] → ⊥
    stray h e = refuses _ _ (rw l.no_index at e)

    -- where nothing waits
    idle_turn : (rows : List Row) (pending : Option (Text × List Text)) (w : Text) → turn_fault (level name) [] (at rows pending idle) w ≡ []
        → (w ≡ dash) ⊎ IsOption (held rows pending) w
    idle_turn rows pending w e = elim (word_by rows pending idle (bytes_eq w dash) (long_of w) w refl refl e) [
      | inl is ↦ inl is
      | inr (inl is) ↦ inr is
      | inr (inr plain) ↦ absurd (stray (held rows pending) plain.4)
    ]

    -- where an option waits for its text
    waiting_turn : (o : l.Valued) (rows : List Row) (w : Text) → turn_fault (level name) [] (waits_for o rows) w ≡ []
        → (w ≡ dash) ⊎ (IsOption (held rows (has o [])) w ⊎ IsPlain (held rows (has o [])) (option (l.value_id o)) w)
    waiting_turn o rows w e = word_by rows (has o []) (option (l.value_id o)) (bytes_eq w dash) (long_of w) w refl refl e

    -- the walk goes on behind a word that is not refused
    behind : (walk : Walk) (w : Text) (rest : List Text) → faults walk (w ∷ rest) ≡ []
        → (turn_fault (level name) [] walk w ≡ []) × (faults (walked l.rules [] walk w) rest ≡ [])
    unfolding walk_fault
    behind walk w rest e =
        let parts = neither (walk_fault (level name) [] walk (w ∷ rest)) _ e in
        let turns = neither (turn_fault (level name) [] walk w) _ parts.0 in
        (turns.0, ap₂ or_else turns.1 parts.1)

    past_dash : (rows : List Row) (pending : Option (Text × List Text)) (waiting : Waiting) (x : Text) (xs : List Text) → faults (at rows pending waiting) (dash ∷ x ∷ xs) ≡ [] → ⊥
    unfolding walked
    past_dash rows pending idle x xs e =
        let passed : Walk = walked l.rules [] (at rows pending idle) dash in
        stray passed.held (behind passed x xs (behind (at rows pending idle) dash (x ∷ xs) e).1).0
    past_dash rows pending (option id) x xs e =
        let passed : Walk = walked l.rules [] (at rows pending (option id)) dash in
        stray passed.held (behind passed x xs (behind (at rows pending (option id)) dash (x ∷ xs) e).1).0
    past_dash rows pending positional x xs e =
        let passed : Walk = walked l.rules [] (at rows pending positional) dash in
        stray passed.held (behind passed x xs (behind (at rows pending positional) dash (x ∷ xs) e).1).0

    -- nothing follows `--`, and what is held is not refused
    dash_ends : (rows : List Row) (pending : Option (Text × List Text)) (waiting : Waiting) (rest : List Text) → faults (at rows pending waiting) (dash ∷ rest) ≡ []
        → (rest ≡ []) × (settle_fault l.rules false (held rows pending) ≡ [])
    unfolding walk_fault walked
    dash_ends rows pending idle [] e = (refl, e)
    dash_ends rows pending (option id) [] e = (refl, e)
    dash_ends rows pending positional [] e = (refl, e)
    dash_ends rows pending idle (x ∷ xs) e = absurd (past_dash rows pending idle x xs e)
    dash_ends rows pending (option id) (x ∷ xs) e = absurd (past_dash rows pending (option id) x xs e)
    dash_ends rows pending positional (x ∷ xs) e = absurd (past_dash rows pending positional x xs e)

    -- what is pending where nothing waits is not refused: its option is used at the next one, or at the end
    settles : (rows : List Row) (pending : Option (Text × List Text)) (words : List Text) → faults (at rows pending idle) words ≡ []
        → settle_fault l.rules false (held rows pending) ≡ []
    unfolding walk_fault
    settles rows pending [] e = e
    settles rows pending (w ∷ rest) e = elim (idle_turn rows pending w (behind (at rows pending idle) w rest e).0) [
      | inl is ↦ (dash_ends rows pending idle rest (subst (λ x. faults (at rows pending idle) (x ∷ rest) ≡ []) is e)).1
      | inr (inl (f, v, is, passes)) ↦ (neither (settle_fault l.rules false (held rows pending)) _ passes.1).0
      | inr (inr (o, Some v, is, free)) ↦ (neither (settle_fault l.rules false (held rows pending)) _ free).0
      | inr (inr (o, None, is, free)) ↦ free
    ]

    -- ---- the use of an option

    -- an option waits for its text, which is not refused
    waits_refused : (o : l.Valued) (rows : List Row) → settle_fault l.rules false (held rows (has o [])) ≡ [] → ⊥
    waits_refused o rows e = refuses _ _ (rw (l.value_by_id o) at e)

    settles_use : (o : l.Valued) (t : Text) (rows : List Row) → settle_fault l.rules false (held rows (has o (t ∷ []))) ≡ [] → fault_used (inr (o, t)) rows ≡ []
    settles_use o t rows e = sym (ap (λ r. option_map_or (λ a. use_fault false a (t ∷ []) rows) r []) (l.value_by_id o)) ∙ e

    -- the words behind the word of an option
    second_word : (o : l.Valued) (rows : List Row) (words : List Text) → faults (waits_for o rows) words ≡ []
        → (t : Text) × (rest : List Text) × (words ≡ t ∷ rest) × IsNoBundle t × (walked l.rules [] (waits_for o rows) t ≡ at rows (has o (t ∷ [])) idle)
        × (faults (at rows (has o (t ∷ [])) idle) rest ≡ [])
    unfolding walk_fault
    second_word o rows [] e = absurd (waits_refused o rows e)
    second_word o rows (t ∷ rest) e =
        let walk = waits_for o rows in
        let next = behind walk t rest e in
        elim (waiting_turn o rows t next.0) [
          | inl is ↦ absurd (waits_refused o rows (dash_ends rows (has o []) (option (l.value_id o)) rest (subst (λ x. faults walk (x ∷ rest) ≡ []) is e)).1)
          | inr (inl (inl (f, v, is, passes))) ↦ absurd (waits_refused o rows (neither (settle_fault l.rules false (held rows (has o []))) _ passes.1).0)
          | inr (inl (inr (other, Some v, is, free))) ↦ absurd (waits_refused o rows (neither (settle_fault l.rules false (held rows (has o []))) _ free).0)
          | inr (inl (inr (other, None, is, free))) ↦ absurd (waits_refused o rows free)
          | inr (inr plain) ↦
              let takes = taken_up o rows t plain.0 plain.1 plain.3 in
              (t, rest, refl, plain.2, takes, subst (λ walk. faults walk rest ≡ []) takes next.1)
        ]

    -- the words begin with a use of an option
    abbrev Uses : List Row → Option (Text × List Text) → List Text → Type 0
    Uses rows pending words = (u : Use) × (part rest : List Text) × (words ≡ part ++ rest) × Spells u part × (length rest < length words)
        × (fault_used u (found rows pending) ≡ []) × (now : List Row) × (waits : Option (Text × List Text)) × (found now waits ≡ rows_used u (found rows pending))
        × (held_behind (at rows pending idle) words ≡ held_behind (at now waits idle) rest) × (faults (at now waits idle) rest ≡ [])

    -- words that are not refused end, or begin with a use
    next_use : (rows : List Row) (pending : Option (Text × List Text)) (words : List Text) → faults (at rows pending idle) words ≡ []
        → IsEnd words ⊎ Uses rows pending words
    next_use rows pending [] e = inl (inl refl)
    next_use rows pending (w ∷ rest) e =
        let walk = at rows pending idle in
        let next = behind walk w rest e in
        let past = found rows pending in
        elim (idle_turn rows pending w next.0) [
          | inl is ↦ inl (inr (ap₂ (λ x xs. x ∷ xs) is (dash_ends rows pending idle rest (subst (λ x. faults walk (x ∷ rest) ≡ []) is e)).0))
          | inr (inl (f, v, is, passes)) ↦
              let spelt = spelled w (l.flag_id f) (is ∙ ap (λ v. Some (l.flag_id f, v)) passes.0) in
              let goes = subst (λ x. faults (walked l.rules [] walk x) rest ≡ []) spelt next.1 in
              inr (
                inl f,
                w ∷ [],
                rest,
                refl,
                ap (λ x. x ∷ []) spelt,
                omega arith,
                (neither (settle_fault l.rules false (held rows pending)) _ passes.1).1,
                rows_used (inl f) past,
                None,
                refl,
                ap (λ x. held_behind (walked l.rules [] walk x) rest) spelt ∙ ap (λ v. held_behind v rest) (flag_walked f rows pending),
                subst (λ walk. faults walk rest ≡ []) (flag_walked f rows pending) goes,
              )
          | inr (inr (o, Some t, is, free)) ↦
              let spelt = spelled_with w (l.value_id o) t is ∙ ap (λ xs. 45 ∷ 45 ∷ xs) (sym (append_assoc (l.value_id o) (codes "=") t)) in
              let goes = subst (λ x. faults (walked l.rules [] walk x) rest ≡ []) spelt next.1 in
              inr (
                inr (o, t),
                w ∷ [],
                rest,
                refl,
                inl (ap (λ x. x ∷ []) spelt),
                omega arith,
                (neither (settle_fault l.rules false (held rows pending)) _ free).1,
                rows_used (inr (o, t)) past,
                None,
                refl,
                ap (λ x. held_behind (walked l.rules [] walk x) rest) spelt ∙ ap (λ v. held_behind v rest) (one_walked o rows pending t),
                subst (λ walk. faults walk rest ≡ []) (one_walked o rows pending t) goes,
              )
          | inr (inr (o, None, is, free)) ↦
              let spelt = spelled w (l.value_id o) is in
              let goes = subst (λ x. faults (walked l.rules [] walk x) rest ≡ []) spelt next.1 in
              let (t, more, words_are, bare, takes, last) = second_word o past rest (subst (λ walk. faults walk rest ≡ []) (first_walked o rows pending) goes) in
              inr (
                inr (o, t),
                w ∷ t ∷ [],
                more,
                ap (λ xs. w ∷ xs) words_are,
                inr (ap (λ x. x ∷ t ∷ []) spelt, bare),
                omega (arith, ap length words_are),
                settles_use o t past (settles past (has o (t ∷ [])) more last),
                past,
                has o (t ∷ []),
                given_found o past t,
                ap (λ ws. held_behind (walked l.rules [] walk w) ws) words_are ∙ ap (λ x. held_behind (walked l.rules [] (walked l.rules [] walk x) t) more) spelt
                    ∙ ap (λ v. held_behind (walked l.rules [] v t) more) (first_walked o rows pending) ∙ ap (λ v. held_behind v more) takes,
                last,
              )
        ]

    -- ---- all words

    end_found : (rows : List Row) (pending : Option (Text × List Text)) (words : List Text) → IsEnd words → found_in (held_behind (at rows pending idle) words) ≡ found rows pending
    unfolding walked
    end_found rows pending words (inl none) = ap (λ ws. found_in (held_behind (at rows pending idle) ws)) none
    end_found rows pending words (inr dashed) = ap (λ ws. found_in (held_behind (at rows pending idle) ws)) dashed

    uses_within : (most : ℕ) (rows : List Row) (pending : Option (Text × List Text)) (words : List Text) → length words < most → faults (at rows pending idle) words ≡ []
        → AskForUses (found rows pending) words (held_behind (at rows pending idle) words)
    uses_within zero rows pending words few e = absurd (omega arith)
    uses_within (suc most) rows pending words few e = elim (next_use rows pending words e) [
      | inl end ↦ ([], [], words, found rows pending, refl, (refl, refl), end, end_found rows pending words end)
      | inr (u, part, rest, is, spells, less, free, now, waits, founds, goes, left) ↦
          let (uses, front, end, after, is_rest, are, ends, finds) =
          subst (λ rows. AskForUses rows rest (held_behind (at now waits idle) rest)) founds (uses_within most now waits rest (omega (arith, less, few)) left) in (
            u ∷ uses,
            part ++ front,
            end,
            after,
            is ∙ ap (λ xs. part ++ xs) is_rest ∙ sym (append_assoc part front end),
            (part, front, refl, spells, free, are),
            ends,
            ap found_in goes ∙ finds,
          )
    ]

    pub walk_asks : (words : List Text) → walk_fault (level name) [] start words ≡ [] → settle_fault l.rules false (held_behind start words) ≡ [] → AreUsed words
    walk_asks words walks settles = uses_within (suc (length words)) [] None words (omega arith) (ap₂ or_else walks settles)

    pub level_asks : (words : List Text) → level_fault (level name) [] nothing_held words false [] ≡ [] → AreUsed words
    level_asks words e =
        let walks = neither (walk_fault (level name) [] start words) _ e in
        let held = neither (settle_fault l.rules false (held_behind start words)) _ walks.1 in
        walk_asks words walks.0 held.0
