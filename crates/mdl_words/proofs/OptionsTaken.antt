-- Words that give options are taken, and the options are found in them.
use Rattle.std.proofs.Common.{◌≡◌, ◌∙◌, ◌&&◌, ◌||◌, inl, inr, ap, ap₂, refl, sym, subst, codes, true, false, Bool, List, [], ◌∷◌, ◌++◌, Option, Some, None, append-nil}
use Rattle.std.specs.Prelude.{fold, option_and_then}
use Rattle.std.specs.List.{list_all}
use Rattle.std.specs.Option.{option_map_or}
use Rattle.std.specs.Str.{bytes_eq}
use Rattle.std.specs.Str.Parse.{starts_with_minus}
use Rattle.std.proofs.lemmas.List.Sums.{fold-append}
use Rattle.clap.specs.Lexer.{long_of, long_of_rest, short_of, short_of_rest, strip_byte}
use Rattle.clap.specs.Facts.{parser_of_value}
use Rattle.clap.specs.ValueTests.{accepts}
use Rattle.clap.specs.Walk.{Row, Text, Walk, after_flag, finished, has_row, idle, long_met, next, nothing_held, option, option_word, rows_after, short_or_plain, walked, with_default}
use Rattle.clap.specs.Takes.{bundle_passes, default_passes, flag_word_passes, is_valid, level_passes, long_passes, settle_passes, step_passes, turn_passes, use_passes, walk_passes}
use Rattle.clap.proofs.OnLiterals.{clap_on_literals}
use Rattle.mdl_words.specs.Words.{GiveText}
use Rattle.mdl_words.proofs.Levels.{IsEnd, Level, start}
use Rattle.mdl_words.proofs.OptionWords.{at, first_walked, flag_walked, flag_words, found, given_found, has, level, met_by, one_walked, rows_used, taken_up, value_rule_of, value_words, waits_for}
use Rattle.mdl_words.proofs.ShortOptions.{dash, held}

-- ---- a text in a word of its own, which no `-` begins

no_hyphen : (t : Text) → starts_with_minus t ≡ false → strip_byte 45 t ≡ None
no_hyphen [] e = refl
no_hyphen (x ∷ xs) e = rw e refl

no_dash : (t : Text) → starts_with_minus t ≡ false → bytes_eq t dash ≡ false
no_dash [] e = refl
no_dash (x ∷ xs) e = rw e refl

no_long : (t : Text) → starts_with_minus t ≡ false → long_of t ≡ None
no_long t e = ap (λ o. option_and_then long_of_rest (option_and_then (strip_byte 45) o)) (no_hyphen t e)

no_short : (t : Text) → starts_with_minus t ≡ false → short_of t ≡ None
no_short t e = ap (option_and_then short_of_rest) (no_hyphen t e)

module _ (l : Level) where
  text_walked : (o : l.Valued) (rows : List Row) (t : Text) → starts_with_minus t ≡ false → walked l.rules [] (waits_for l o rows) t ≡ at l rows (has l o (t ∷ [])) idle
  text_walked o rows t e =
      taken_up l o rows t (no_dash t e) (no_long t e) (ap (λ s. short_or_plain l.rules (option (l.value_id o)) t s (held rows (has l o []))) (no_short t e))

  -- the texts that an option takes
  abbrev pub takes_text : l.Valued → Text → Bool
  takes_text o t = accepts false (parser_of_value (value_rule_of l o).parser) t

  module _ (name : Text) where
    text_passes : (o : l.Valued) (rows : List Row) (t : Text) → starts_with_minus t ≡ false → turn_passes (level l name) [] (waits_for l o rows) t ≡ true
    text_passes o rows t e =
        let h = held rows (has l o []) in
        let waiting = option (l.value_id o) in
        ap₂ (λ b v. (b || flag_word_passes l.rules false v t h) && step_passes (level l name) 1 (met_by l waiting h t b v).0 (met_by l waiting h t b v).1) (no_dash t e) (no_long t e)
        ∙ ap (λ s. option_map_or (λ f. bundle_passes l.rules false f h) s true
        && step_passes (level l name) 1 (short_or_plain l.rules waiting t s h).0 (short_or_plain l.rules waiting t s h).1) (no_short t e)
        ∙ ap (λ r. step_passes (level l name) 1 (option_word r (l.value_id o) t h).0 (next (option_word r (l.value_id o) t h).1)) (l.value_by_id o)

    -- ---- walks that pass

    passes_append : (w : Walk) (front rest : List Text)
        → walk_passes (level l name) [] w (front ++ rest) ≡ (walk_passes (level l name) [] w front && walk_passes (level l name) [] (fold (walked l.rules []) w front) rest)
    unfolding walk_passes
    passes_append w [] rest = refl
    passes_append w (x ∷ xs) rest =
        ap (λ b. turn_passes (level l name) [] w x && b) (passes_append (walked l.rules [] w x) xs rest)
        ∙ shifted (turn_passes (level l name) [] w x) _ _
      where
        shifted : (a b c : Bool) → (a && (b && c)) ≡ ((a && b) && c)
        shifted true b c = refl
        shifted false b c = refl

    -- behind these words nothing waits, all passes, and these rows are found
    abbrev pub Stands : Walk → List Text → List Row → Type 0
    Stands w words rows = (now : List Row) × (pending : Option (Text × List Text)) × (found l now pending ≡ rows)
        × (settle_passes l.rules false (held now pending) ≡ true)
        × (fold (walked l.rules []) w words ≡ at l now pending idle)
        × (walk_passes (level l name) [] w words ≡ true)

    pub nothing_stands : Stands start [] []
    unfolding walk_passes
    nothing_stands = ([], None, refl, refl, refl, refl)

    module _ (rows now : List Row) (pending : Option (Text × List Text)) (founds : found l now pending ≡ rows) (settles : settle_passes l.rules false (held now pending) ≡ true) where
      flag_turn : (f : l.Flag) → has_row (l.flag_id f) (found l now pending) ≡ false → walk_passes (level l name) [] (at l now pending idle) (flag_words l f ∷ []) ≡ true
      unfolding clap_on_literals
      flag_turn f fresh =
          let h = held now pending in
          let w = flag_words l f in
          ap₂ (λ b o. ((b || flag_word_passes l.rules false o w h) && step_passes (level l name) 1 (met_by l idle h w b o).0 (met_by l idle h w b o).1) && true) (l.flag_dash f) (l.flag_word f)
          ∙ ap (λ r. (long_passes l.rules false r None h && step_passes (level l name) 1 (after_flag l.rules idle w (long_met l.rules r None h).0 (long_met l.rules r None h).1).0
          (after_flag l.rules idle w (long_met l.rules r None h).0 (long_met l.rules r None h).1).1) && true) (l.flag_long f)
          ∙ rw settles (rw fresh refl)

      one_turn : (o : l.Valued) (t : Text) → takes_text o t ≡ true → has_row (l.value_id o) (found l now pending) ≡ false
          → walk_passes (level l name) [] (at l now pending idle) ((codes "--" ++ l.value_id o ++ codes "=" ++ t) ∷ []) ≡ true
      unfolding clap_on_literals
      one_turn o t fits fresh =
          let h = held now pending in
          let w = codes "--" ++ l.value_id o ++ codes "=" ++ t in
          ap₂ (λ b v. ((b || flag_word_passes l.rules false v w h) && step_passes (level l name) 1 (met_by l idle h w b v).0 (met_by l idle h w b v).1) && true) (l.with_dash o t) (l.value_with o t)
          ∙ ap (λ r. (long_passes l.rules false r (Some t) h && step_passes (level l name) 1 (after_flag l.rules idle w (long_met l.rules r (Some t) h).0 (long_met l.rules r (Some t) h).1).0
          (after_flag l.rules idle w (long_met l.rules r (Some t) h).0 (long_met l.rules r (Some t) h).1).1) && true) (l.value_long o)
          ∙ rw settles (rw fresh (rw fits refl))

      word_turn : (o : l.Valued) → turn_passes (level l name) [] (at l now pending idle) (value_words l o) ≡ true
      word_turn o =
          let h = held now pending in
          let w = value_words l o in
          ap₂ (λ b v. (b || flag_word_passes l.rules false v w h) && step_passes (level l name) 1 (met_by l idle h w b v).0 (met_by l idle h w b v).1) (l.value_dash o) (l.value_word o)
          ∙ ap (λ r. long_passes l.rules false r None h && step_passes (level l name) 1 (after_flag l.rules idle w (long_met l.rules r None h).0 (long_met l.rules r None h).1).0
          (after_flag l.rules idle w (long_met l.rules r None h).0 (long_met l.rules r None h).1).1) (l.value_long o)
          ∙ rw settles refl

      settled : (o : l.Valued) (t : Text) → takes_text o t ≡ true → has_row (l.value_id o) (found l now pending) ≡ false
          → settle_passes l.rules false (held (found l now pending) (has l o (t ∷ []))) ≡ true
      settled o t fits fresh =
          ap (λ r. option_map_or (λ a. use_passes false a (t ∷ []) (found l now pending)) r true) (l.value_by_id o) ∙ rw fresh (rw fits refl)

      -- the use of an option that was not used before
      flag_stands : (f : l.Flag) → has_row (l.flag_id f) rows ≡ false → Stands (at l now pending idle) (flag_words l f ∷ []) (rows_used l (inl f) rows)
      flag_stands f fresh =
          (rows_used l (inl f) (found l now pending), None, ap (rows_used l (inl f)) founds, refl, flag_walked l f now pending, flag_turn f (ap (has_row (l.flag_id f)) founds ∙ fresh))

      one_stands : (o : l.Valued) (t : Text) → takes_text o t ≡ true → has_row (l.value_id o) rows ≡ false
          → Stands (at l now pending idle) ((codes "--" ++ l.value_id o ++ codes "=" ++ t) ∷ []) (rows_used l (inr (o, t)) rows)
      one_stands o t fits fresh = (
        rows_used l (inr (o, t)) (found l now pending),
        None,
        ap (rows_used l (inr (o, t))) founds,
        refl,
        one_walked l o now pending t,
        one_turn o t fits (ap (has_row (l.value_id o)) founds ∙ fresh),
      )

      two_stand : (o : l.Valued) (t : Text) → takes_text o t ≡ true → starts_with_minus t ≡ false → has_row (l.value_id o) rows ≡ false
          → Stands (at l now pending idle) (value_words l o ∷ t ∷ []) (rows_used l (inr (o, t)) rows)
      unfolding walk_passes
      two_stand o t fits minus fresh =
          let past = found l now pending in
          let first = first_walked l o now pending in (
            past,
            has l o (t ∷ []),
            given_found l o past t ∙ ap (rows_used l (inr (o, t))) founds,
            settled o t fits (ap (has_row (l.value_id o)) founds ∙ fresh),
            ap (λ w. walked l.rules [] w t) first ∙ text_walked o past t minus,
            ap₂ (λ b w. b && (turn_passes (level l name) [] w t && true)) (word_turn o) first ∙ ap (λ b. b && true) (text_passes o past t minus),
          )

      text_stands : (o : l.Valued) (t : Text) (words : List Text) → takes_text o t ≡ true → has_row (l.value_id o) rows ≡ false → GiveText (l.value_id o) t words
          → Stands (at l now pending idle) words (rows_used l (inr (o, t)) rows)
      text_stands o t words fits fresh (inl one) = subst (λ ws. Stands (at l now pending idle) ws (rows_used l (inr (o, t)) rows)) (sym one) (one_stands o t fits fresh)
      text_stands o t words fits fresh (inr (two, minus)) = subst (λ ws. Stands (at l now pending idle) ws (rows_used l (inr (o, t)) rows)) (sym two) (two_stand o t fits minus fresh)

    -- ---- more words

    -- words that stand behind others
    more_stand : (front words : List Text) (rows after : List Row) (stands : Stands start front rows) → Stands (at l stands.0 stands.1 idle) words after → Stands start (front ++ words) after
    more_stand front words rows after (now, pending, founds, settles, walks, passes) (later, waits, finds, ends, goes, goes_well) =
        let walk = fold-append (walked l.rules []) start front words ∙ ap (λ w. fold (walked l.rules []) w words) walks ∙ goes in
        let pass = passes_append start front words ∙ ap₂ (λ b w. b && walk_passes (level l name) [] w words) passes walks ∙ goes_well in
        (later, waits, finds, ends, walk, pass)

    -- an option that was not used before
    pub flag_behind : (f : l.Flag) (front words : List Text) (rows : List Row) → words ≡ flag_words l f ∷ [] → has_row (l.flag_id f) rows ≡ false → Stands start front rows
        → Stands start (front ++ words) (rows_used l (inl f) rows)
    flag_behind f front words rows is fresh stands =
        let (now, pending, founds, settles, walks, passes) = stands in
        more_stand front words rows _ stands
        (subst (λ ws. Stands (at l now pending idle) ws (rows_used l (inl f) rows)) (sym is) (flag_stands rows now pending founds settles f fresh))

    pub text_behind : (o : l.Valued) (t : Text) (front words : List Text) (rows : List Row) → takes_text o t ≡ true → has_row (l.value_id o) rows ≡ false
        → GiveText (l.value_id o) t words → Stands start front rows → Stands start (front ++ words) (rows_used l (inr (o, t)) rows)
    text_behind o t front words rows fits fresh gives stands =
        let (now, pending, founds, settles, walks, passes) = stands in
        more_stand front words rows _ stands (text_stands rows now pending founds settles o t words fits fresh gives)

    pub no_more : (front words : List Text) (rows : List Row) → words ≡ [] → Stands start front rows → Stands start (front ++ words) rows
    no_more front words rows none stands = subst (λ ws. Stands start ws rows) (sym (ap (λ ws. front ++ ws) none ∙ append-nil front)) stands

    -- ---- the words of a level

    -- the words are taken, and these rows are found
    abbrev pub AreTaken : List Text → List Row → Type 0
    AreTaken words rows = (level_passes (level l name) [] nothing_held words false ≡ true) × (rows_after l.rules [] words ≡ fold with_default rows l.rules)

    ends_well : (now : List Row) (pending : Option (Text × List Text)) → settle_passes l.rules false (held now pending) ≡ true
        → (settle_passes l.rules false (held now pending) && (list_all default_passes l.rules && is_valid (level l name) (finished l.rules (held now pending)) false)) ≡ true
    ends_well now pending settles = rw settles (l.ends (finished l.rules (held now pending)))

    pub words_taken : (words end : List Text) (rows : List Row) → Stands start words rows → IsEnd end → AreTaken (words ++ end) rows
    unfolding clap_on_literals
    words_taken words end rows (now, pending, founds, settles, walks, passes) is_end =
        let held_is = ap (λ (w : Walk). w.held) (fold-append (walked l.rules []) start words end ∙ ap (λ w. fold (walked l.rules []) w end) walks) ∙ held_past end is_end in (
          ap₂ (λ b h. b && (settle_passes l.rules false h && (list_all default_passes l.rules && is_valid (level l name) (finished l.rules h) false)))
              (passes_append start words end ∙ ap₂ (λ b w. b && walk_passes (level l name) [] w end) passes walks ∙ end_passes end is_end) held_is
              ∙ ends_well now pending settles,
          ap (finished l.rules) held_is ∙ ap (λ rows. fold with_default rows l.rules) founds,
        )
      where
        end_passes : (end : List Text) → IsEnd end → walk_passes (level l name) [] (at l now pending idle) end ≡ true
        end_passes end (inl none) = rw none refl
        end_passes end (inr dashed) = rw dashed refl

        held_past : (end : List Text) → IsEnd end → (fold (walked l.rules []) (at l now pending idle) end).held ≡ held now pending
        held_past end (inl none) = rw none refl
        held_past end (inr dashed) = rw dashed refl
