-- Which words a command takes that has subcommands, and no option but `--help`.
use Rattle.std.proofs.Common.{◌≡◌, ◌∙◌, ◌⊎◌, ◌||◌, ◌&&◌, inl, inr, ap, refl, sym, subst, codes, true, false, not, Bool, List, [], ◌∷◌, ◌++◌, Option, Some, None, option_map, map, if◌then◌else◌}
use Rattle.std.specs.Prelude.{Box, fold, unwrap_or}
use Rattle.std.specs.Box.{box_value}
use Rattle.std.specs.List.{find}
use Rattle.std.specs.Str.{bytes_eq}
use Rattle.std.proofs.lemmas.Slice.Eq.{bytes_eq-Decides}
use Rattle.clap.specs.Kinds.{or_else}
use Rattle.clap.specs.Lexer.{long_of, short_of}
use Rattle.clap.specs.Walk.{Held, Names, Row, Step, Text, Walk, answers_to, idle, long_or_other, nothing_held, subcommand_met, subcommand_or_other, value, walk, walked}
use Rattle.clap.specs.Simple.{App, Shape, app_of, filled, help_rule, names_of, new_shape, subcommand_rows}
use Rattle.clap.specs.Takes.{turn_passes, walk_passes}
use Rattle.clap.specs.Faults.{built_fault, entered_fault, flag_word_fault, long_fault, other_fault, step_fault, turn_fault, walk_fault}
use Rattle.clap.specs.declared.builder.command.Command.{Command}
use Rattle.clap.specs.declared.builder.command.Command.TheViews.{out-Command}
use Rattle.clap.specs.declared.error.kind.ErrorKind.TheVariants as kind
use Rattle.clap.specs.declared.parser.matches.ArgMatches.TheViews.{out-SubCommand}
use Rattle.clap.specs.declared.parser.matches.SubCommand.{SubCommand}
use Rattle.clap.proofs.WalkLemmas.{both, walk_stopped}
use Rattle.mdl_words.proofs.Levels.{start}
use Rattle.mdl_words.proofs.ShortOptions.{dash, help_if, neither, refuses, short_stray}

-- a command with subcommands, as clap builds it
abbrev pub top_shape : Text → Shape
top_shape name = record (new_shape name) { rules = filled help_rule ∷ []; is_leaf = false; subcommand_required = true; is_built = true }

-- the walk that met a subcommand, with the words behind it
abbrev pub stopped_at : Text → List Text → Walk
stopped_at name words = record start { stopped = Some (name, words) }

-- the name is one of these
abbrev pub IsIn : Text → List Text → Type 0
IsIn name [] = ⊥
IsIn name (x ∷ xs) = (name ≡ x) ⊎ IsIn name xs

-- subcommands without aliases
abbrev pub plain_names : List Text → Names
plain_names = map (λ name. (name, []))

-- a word that names a subcommand is its name
pub name_met : (names : List Text) (w name : Text) → subcommand_met (plain_names names) idle w ≡ Some name → (name ≡ w) × IsIn w names
name_met [] w name e = absurd (cc)
name_met (x ∷ xs) w name e = go (bytes_eq x w) refl e (λ met. name_met xs w name met)
  where
    first : Some x ≡ Some name → x ≡ name
    first e = ap (λ o. unwrap_or o x) e

    go : (b : Bool) → bytes_eq x w ≡ b → option_map (λ (s : Text × List Text). s.0) (if b || false then Some (x, []) else find (answers_to w) (plain_names xs)) ≡ Some name
        → (subcommand_met (plain_names xs) idle w ≡ Some name → (name ≡ w) × IsIn w xs) → (name ≡ w) × IsIn w (x ∷ xs)
    go true is met more = let same = (bytes_eq-Decides x w).0 is in (sym (first met) ∙ same, inl (sym same))
    go false is met more = let found = more met in (found.0, inr found.1)

module _ (name : Text) (names : Names) where
  abbrev top : Shape
  top = top_shape name

  pub top_passes : (met : Text) (words seen : List Text) → walk_passes top names (stopped_at met seen) words ≡ true
  unfolding walk_passes walked
  top_passes met [] seen = refl
  top_passes met (x ∷ xs) seen = top_passes met xs (seen ++ x ∷ [])

  -- where no subcommand is named, a first word that is not refused is `--`
  long_refused : (b : Bool) (v : Option Text) → long_fault top.rules false (help_if b) v nothing_held ≡ [] → ⊥
  long_refused true (Some v) e = refuses _ _ e
  long_refused true None e = refuses _ _ e
  long_refused false v e = refuses _ _ e

  long_stray : (o : Option (Text × Option Text)) (w : Text) → flag_word_fault top.rules false o w nothing_held ≡ []
      → (long_or_other top.rules idle w o nothing_held).1 ≡ value
  long_stray (Some p) w e = absurd (long_refused (bytes_eq (codes "help") p.0) p.1 e)
  long_stray None w e = ap (λ (p : Held × Step). p.1) (short_stray top.rules (λ x. refl) [] None idle (short_of w) w e)

  stray_by : (b : Bool) (w : Text) → or_else (other_fault top None w nothing_held)
      (step_fault top 1 (subcommand_or_other top.rules None idle 1 w nothing_held).0 (subcommand_or_other top.rules None idle 1 w nothing_held).1) ≡ []
      → bytes_eq w dash ≡ b → b ≡ true
  stray_by true w e is = refl
  stray_by false w e is =
      let parts = neither (if false then [] else flag_word_fault top.rules false (long_of w) w nothing_held) _ (rw is at e) in
      absurd (refuses _ _ (subst (λ st. step_fault top 1 (long_or_other top.rules idle w (long_of w) nothing_held).0 st ≡ []) (long_stray (long_of w) w parts.0) parts.1))

  -- a first word that is not refused names a subcommand other than `help`, or is `--`
  abbrev pub IsFirst : Text → Type 0
  IsFirst w = ((met : Text) × (subcommand_met names idle w ≡ Some met) × (bytes_eq met (codes "help") ≡ false)) ⊎ (w ≡ dash)

  first_by : (o : Option Text) (w : Text) → subcommand_met names idle w ≡ o
      → or_else (other_fault top o w nothing_held)
      (step_fault top 1 (subcommand_or_other top.rules o idle 1 w nothing_held).0 (subcommand_or_other top.rules o idle 1 w nothing_held).1) ≡ [] → IsFirst w
  first_by None w is e = inr ((bytes_eq-Decides w dash).0 (stray_by (bytes_eq w dash) w e refl))
  first_by (Some met) w is e = inl (met, is, go (bytes_eq met (codes "help")) refl e)
    where
      go : (b : Bool) → bytes_eq met (codes "help") ≡ b
          → or_else (if b && true then kind.DisplayHelp ∷ kind.InvalidSubcommand ∷ [] else []) [] ≡ [] → b ≡ false
      go true same e = absurd (refuses _ _ e)
      go false same e = refl

  pub first_turn : (w : Text) → turn_fault top names start w ≡ [] → IsFirst w
  first_turn w e = first_by (subcommand_met names idle w) w refl e

-- ---- what follows a subcommand

module _ (a : App) (name : Text) (stops : ◌≡◌ {A = Walk} (walked a.top.rules (names_of a) start name) (stopped_at name [])) (rest : List Text) where
  pub walk_is : ◌≡◌ {A = Walk} (walk a.top.rules (names_of a) nothing_held (name ∷ rest)) (stopped_at name rest)
  walk_is = ap (λ w. fold (walked a.top.rules (names_of a)) w rest) stops ∙ sym (walk_stopped a.top.rules (names_of a) start name [] rest)

  -- it is for the subcommand
  pub below : built_fault a nothing_held (name ∷ rest) ≡ [] → entered_fault a (Some (name, rest)) ≡ []
  below e =
      let stop = (walk a.top.rules (names_of a) nothing_held (name ∷ rest)).stopped in
      let parts = neither (entered_fault a stop) _ (neither (walk_fault a.top (names_of a) start (name ∷ rest)) _ e).1 in
      ap (λ (w : Walk). entered_fault a w.stopped) (sym walk_is) ∙ parts.0

  pub all_pass : turn_passes a.top (names_of a) start name ≡ true → walk_passes a.top (names_of a) (stopped_at name []) rest ≡ true → walk_passes a.top (names_of a) start (name ∷ rest) ≡ true
  unfolding walk_passes
  all_pass turn more = ap (λ b. b && walk_passes a.top (names_of a) (walked a.top.rules (names_of a) start name) rest) turn
      ∙ ap (λ w. walk_passes a.top (names_of a) w rest) stops ∙ more

-- ---- what is read of a command, and found by a parse

-- a command whose shape is plain has no global argument
pub no_globals : (c : Command) (a : App) → app_of c ≡ a → a.top.is_plain ≡ true → (out-Command c).has_globals ≡ false
no_globals c a is plain =
    let fields = ap (λ (b : App). b.top.is_plain) is ∙ plain in
    let global = (both _ _ (both _ _ (both _ _ fields).1).1).0 in
    go (out-Command c).has_globals global
  where
    go : (b : Bool) → not b ≡ true → b ≡ false
    go true e = cc
    go false e = refl

module _ {Z : Type 0} where
  pub name_kept : (o : Option (Box SubCommand Z)) → option_map (λ b. (out-SubCommand (box_value b)).name.now) o ≡ option_map (λ (p : Text × List Row). p.0) (subcommand_rows o)
  name_kept None = refl
  name_kept (Some b) = refl
