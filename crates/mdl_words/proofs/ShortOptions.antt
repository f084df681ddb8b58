-- Which words a level takes whose one short option is `-h`, by clap's account of a parse.
use Rattle.std.proofs.Common.{◌≡◌, ◌==◌, ◌||◌, ap, refl, subst, codes, true, false, Bool, ℕ, List, [], ◌∷◌, Option, Some, None, length, if◌then◌else◌}
use Rattle.std.specs.Prelude.{IfSome, slice_get}
use Rattle.std.specs.Option.{option_map_or}
use Rattle.std.specs.Str.{chars}
use Rattle.clap.specs.Kinds.{Kinds, or_else}
use Rattle.clap.specs.Walk.{Held, Outcome, Row, Rule, Step, Text, Waiting, after_flag, arg_by_short, bundle, bundle_met, bundle_step, plain, plain_word, short_or_plain}
use Rattle.clap.specs.Simple.{filled, help_rule}
use Rattle.clap.specs.Faults.{bundle_fault, bundle_step_fault, flags_fault, react_fault, settle_fault, short_fault}
use Rattle.clap.specs.declared.error.kind.ErrorKind.{ErrorKind}

abbrev pub dash : Text
dash = codes "--"

-- kinds of error: none of two lists, and some
pub neither : (first next : Kinds) → or_else first next ≡ [] → (first ≡ []) × (next ≡ [])
neither [] next e = (refl, e)
neither (k ∷ ks) next e = absurd (cc)

pub refuses : (k : ErrorKind) (ks : Kinds) → k ∷ ks ≡ [] → ⊥
refuses k ks e = cc

-- `--help`, where it is met
abbrev pub help_if : Bool → Option Rule
help_if b = if b || false then Some (filled help_rule) else None

-- `--help` is refused, whatever is held
pub help_refused : (rules : List Rule) (h : Held) → react_fault rules false (filled help_rule) [] h ≡ [] → ⊥
help_refused rules h e = refuses _ _ (neither (settle_fault rules false h) _ e).1

-- what is held between words, where these options were met, and this one waits for values or has them
abbrev pub held : List Row → Option (Text × List Text) → Held
held rows pending = record { rows = rows; pending = pending; skip = 0 }

-- a level on which `-h` alone is a short option
module _ (rules : List Rule) (short : (x : ℕ) → arg_by_short rules x ≡ help_if (104 == x)) (rows : List Row) (pending : Option (Text × List Text)) where
  abbrev now : Held
  now = held rows pending

  -- `-h`, and each other short option
  short_refused : (b : Bool) (rest : Text) (next : Held → Kinds) → short_fault rules false (help_if b) rest now next ≡ [] → ⊥
  short_refused true rest next e = help_refused rules now (neither (react_fault rules false (filled help_rule) [] now) _ e).0
  short_refused false rest next e = refuses _ _ e

  -- a bundle that is not refused has no character
  bundle_from : (o : Option ℕ) (flags : Text) (k : ℕ) → bundle_step_fault rules false o flags 0 now (flags_fault rules false k) ≡ []
      → bundle_step rules o flags 0 plain now (bundle_met rules k) ≡ (now, plain)
  bundle_from None flags k e = refl
  bundle_from (Some x) flags k e = absurd (short_refused (104 == x) _ _ (rw (short x) at e))

  -- nor has its text
  no_char : (o : Option ℕ) (flags : Text) (k : ℕ) → bundle_step_fault rules false o flags 0 now (flags_fault rules false k) ≡ [] → o ≡ None
  no_char None flags k e = refl
  no_char (Some x) flags k e = absurd (short_refused (104 == x) _ _ (rw (short x) at e))

  pub bundle_empty : (flags : Text) → bundle_fault rules false flags now ≡ [] → slice_get (chars flags) 0 ≡ None
  unfolding flags_fault chars
  bundle_empty [] e = refl
  bundle_empty (x ∷ xs) e = no_char (slice_get (chars (x ∷ xs)) 0) (x ∷ xs) (length xs) e

  bundle_plain : (flags : Text) → bundle_fault rules false flags now ≡ [] → bundle rules flags now ≡ (now, plain)
  unfolding flags_fault bundle_met
  bundle_plain [] e = refl
  bundle_plain (x ∷ xs) e = bundle_from (slice_get (chars (x ∷ xs)) 0) (x ∷ xs) (length xs) e

  pub short_empty : (o : Option Text) → option_map_or (λ flags. bundle_fault rules false flags now) o [] ≡ [] → IfSome o (λ flags. slice_get (chars flags) 0 ≡ None)
  short_empty None e = tt
  short_empty (Some flags) e = bundle_empty flags e

  -- a word that is no refused flag goes to what waits for it
  pub short_stray : (waiting : Waiting) (o : Option Text) (w : Text) → option_map_or (λ flags. bundle_fault rules false flags now) o [] ≡ []
      → short_or_plain rules waiting w o now ≡ plain_word rules waiting w now
  short_stray waiting None w e = refl
  short_stray waiting (Some flags) w e = ap (λ (p : Held × Outcome). after_flag rules waiting w p.0 p.1) (bundle_plain flags e)
