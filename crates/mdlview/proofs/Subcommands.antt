-- Which subcommands and words the program takes, by clap's account of a parse.
use Rattle.std.proofs.Common.{◌≡◌, ◌∙◌, ◌⊎◌, ◌&&◌, inl, inr, ap, ap₂, refl, sym, subst, codes, true, false, true≢false, List, [], ◌∷◌, Option, Some, None, is_some}
use Rattle.std.specs.List.{list_all}
use Rattle.std.specs.Str.{bytes_eq}
use Rattle.clap.specs.Walk.{Names, Row, Text, Walk, finished, nothing_held, rows_after, stop_after, walk, walked}
use Rattle.clap.specs.Simple.{App, Shape, built, entered}
use Rattle.clap.specs.Takes.{built_takes, default_passes, entered_passes, is_valid, level_passes, settle_passes, turn_passes, walk_passes}
use Rattle.clap.specs.Faults.{built_fault, defaults_fault, entered_fault, settle_fault, turn_fault, walk_fault}
use Rattle.clap.proofs.OnLiterals.{clap_on_literals}
use Rattle.mdl_words.proofs.Levels.{start}
use Rattle.mdl_words.proofs.OptionWords.{AreUsed, level, walk_asks, level_asks}
use Rattle.mdl_words.proofs.ShortOptions.{dash, neither, refuses}
use Rattle.mdl_words.proofs.Subcommands.{all_pass, first_turn, name_met, plain_names, stopped_at, top_passes, walk_is}
use Rattle.mdl_words.proofs.Subcommands as met
use Rattle.mdlview.specs.CommandLine.{mdlview, subcommand_name, why_alone}
use Rattle.mdlview.specs.declared.asked.Subcommand.{Subcommand}
use Rattle.mdlview.specs.declared.asked.Subcommand.TheVariants.{Why, Locks, Waits, Graph, Timeline, Query}
use Rattle.mdlview.proofs.Options.{options, rules}

abbrev pub top : Shape
top = (built mdlview).top

abbrev all_names : List Text
all_names = codes "why" ∷ codes "locks" ∷ codes "waits" ∷ codes "graph" ∷ codes "timeline" ∷ codes "query" ∷ codes "help" ∷ []

abbrev pub names : Names
names = plain_names all_names

-- `--` comes too early: no subcommand follows
dash_first : (rest : List Text) → built_fault (built mdlview) nothing_held (dash ∷ rest) ≡ [] → ⊥
unfolding walk_fault walked defaults_fault
dash_first [] e = refuses _ _ e
dash_first (x ∷ xs) e = refuses _ _ e

-- a subcommand stops the walk, and the words behind it are for it
stops : (named : Subcommand) → ◌≡◌ {A = Walk} (walked top.rules names start (subcommand_name named)) (stopped_at (subcommand_name named) [])
unfolding walked
stops Why = refl
stops Locks = refl
stops Waits = refl
stops Graph = refl
stops Timeline = refl
stops Query = refl

entered_asks : (named : Subcommand) (rest : List Text) → entered_fault (built mdlview) (Some (subcommand_name named, rest)) ≡ [] → AreUsed options rest
entered_asks Why rest e = level_asks options (codes "why") rest e
entered_asks Locks rest e = level_asks options (codes "locks") rest e
entered_asks Waits rest e = level_asks options (codes "waits") rest e
entered_asks Graph rest e = level_asks options (codes "graph") rest e
entered_asks Timeline rest e = level_asks options (codes "timeline") rest e
entered_asks Query rest e = level_asks options (codes "query") rest e

below : (named : Subcommand) (rest : List Text) → built_fault (built mdlview) nothing_held (subcommand_name named ∷ rest) ≡ [] → AreUsed options rest
below named rest e = entered_asks named rest (met.below (built mdlview) (subcommand_name named) (stops named) rest e)

-- a first word that is not refused is a subcommand's name
named_first : (w name : Text) → name ≡ w → bytes_eq name (codes "help") ≡ false
    → (w ≡ codes "why") ⊎ ((w ≡ codes "locks") ⊎ ((w ≡ codes "waits") ⊎ ((w ≡ codes "graph") ⊎ ((w ≡ codes "timeline") ⊎ ((w ≡ codes "query") ⊎ ((w ≡ codes "help") ⊎ ⊥))))))
    → (named : Subcommand) × (w ≡ subcommand_name named)
named_first w name same other (inl is) = (Why, is)
named_first w name same other (inr (inl is)) = (Locks, is)
named_first w name same other (inr (inr (inl is))) = (Waits, is)
named_first w name same other (inr (inr (inr (inl is)))) = (Graph, is)
named_first w name same other (inr (inr (inr (inr (inl is))))) = (Timeline, is)
named_first w name same other (inr (inr (inr (inr (inr (inl is)))))) = (Query, is)
named_first w name same other (inr (inr (inr (inr (inr (inr (inl is))))))) = absurd (true≢false (sym (ap (λ x. bytes_eq x (codes "help")) (same ∙ is)) ∙ other))
named_first w name same other (inr (inr (inr (inr (inr (inr (inr never))))))) = absurd never

-- words that the program doesn't refuse
pub program_asks : (words : List Text) → built_fault (built mdlview) nothing_held words ≡ []
    → (named : Subcommand) × (rest : List Text) × (words ≡ subcommand_name named ∷ rest) × AreUsed options rest
unfolding walk_fault defaults_fault
program_asks [] e = absurd (refuses _ _ e)
program_asks (w ∷ rest) e =
    let walks = neither (walk_fault top names start (w ∷ rest)) _ e in
    elim (first_turn (codes "mdlview") names w (neither (turn_fault top names start w) _ walks.0).0) [
      | inl (name, met_as, other) ↦
          let (same, within) = name_met all_names w name met_as in
          let (named, is) = named_first w name same other within in
          (named, rest, ap (λ x. x ∷ rest) is, below named rest (subst (λ x. built_fault (built mdlview) nothing_held (x ∷ rest) ≡ []) is e))
      | inr is ↦ absurd (dash_first rest (subst (λ x. built_fault (built mdlview) nothing_held (x ∷ rest) ≡ []) is e))
    ]

-- ---- what is taken

-- a level takes the words, by any name
abbrev pub AreTaken : List Text → Type 0
AreTaken words = (name : Text) → level_passes (level options name) [] nothing_held words false ≡ true

entered_taken : (named : Subcommand) (rest : List Text) → AreTaken rest
    → entered_passes (built mdlview) (Some (subcommand_name named, rest)) ≡ true
entered_taken Why rest passes = passes (codes "why")
entered_taken Locks rest passes = passes (codes "locks")
entered_taken Waits rest passes = passes (codes "waits")
entered_taken Graph rest passes = passes (codes "graph")
entered_taken Timeline rest passes = passes (codes "timeline")
entered_taken Query rest passes = passes (codes "query")

-- what a subcommand finds
pub entered_is : (named : Subcommand) (rest : List Text) → entered (built mdlview) (Some (subcommand_name named, rest)) ≡ Some (subcommand_name named, rows_after rules [] rest)
entered_is Why rest = refl
entered_is Locks rest = refl
entered_is Waits rest = refl
entered_is Graph rest = refl
entered_is Timeline rest = refl
entered_is Query rest = refl

first_passes : (named : Subcommand) → turn_passes top names start (subcommand_name named) ≡ true
first_passes Why = refl
first_passes Locks = refl
first_passes Waits = refl
first_passes Graph = refl
first_passes Timeline = refl
first_passes Query = refl

pub program_taken : (named : Subcommand) (rest : List Text) → AreTaken rest
    → built_takes (built mdlview) nothing_held (subcommand_name named ∷ rest) ≡ true
program_taken named rest passes =
    ap₂ (λ b (w : Walk). entered_passes (built mdlview) w.stopped && (b && (settle_passes top.rules false w.held && (list_all default_passes top.rules
    && is_valid top (finished top.rules w.held) (is_some (entered (built mdlview) w.stopped))))))
    (all_pass (built mdlview) (subcommand_name named) (stops named) rest (first_passes named) (top_passes (codes "mdlview") names (subcommand_name named) rest []))
    (walk_is (built mdlview) (subcommand_name named) (stops named) rest)
    ∙ ap₂ (λ b (found : Option (Text × List Row)). b && (true && (settle_passes top.rules false nothing_held && (list_all default_passes top.rules
    && is_valid top (finished top.rules nothing_held) (is_some found))))) (entered_taken named rest passes) (entered_is named rest)

pub subcommand_is : (named : Subcommand) (rest : List Text)
    → entered (built mdlview) (stop_after top.rules names (subcommand_name named ∷ rest)) ≡ Some (subcommand_name named, rows_after rules [] rest)
subcommand_is named rest = ap (λ (w : Walk). entered (built mdlview) w.stopped) (walk_is (built mdlview) (subcommand_name named) (stops named) rest) ∙ entered_is named rest

-- ---- options without a subcommand

abbrev pub alone : App
alone = built why_alone

none_entered : (stop : Option (Text × List Text)) → is_some (entered alone stop) ≡ false
none_entered None = refl
none_entered (Some p) = refl

none_passes : (stop : Option (Text × List Text)) → entered_passes alone stop ≡ true
none_passes None = refl
none_passes (Some p) = refl

pub alone_asks : (words : List Text) → built_fault alone nothing_held words ≡ [] → AreUsed options words
alone_asks words e =
    let stop = (walk rules [] nothing_held words).stopped in
    let walks = neither (walk_fault (level options (codes "mdlview")) [] start words) _ e in
    let settles = neither (settle_fault rules false (walk rules [] nothing_held words).held) _ (neither (entered_fault alone stop) _ walks.1).1 in
    walk_asks options (codes "mdlview") words walks.0 settles.0

pub alone_taken : (words : List Text) → AreTaken words → built_takes alone nothing_held words ≡ true
alone_taken words passes =
    let stop = (walk rules [] nothing_held words).stopped in
    ap₂ (λ b c. b && level_passes (level options (codes "mdlview")) [] nothing_held words c) (none_passes stop) (none_entered stop) ∙ passes (codes "mdlview")
