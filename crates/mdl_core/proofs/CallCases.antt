-- By the causes that stand against a call, and by the tests that it makes.
use Rattle.std.proofs.Common.{◌≡◌, ◌≢◌, Bool, true, false, not, List, [], ◌∷◌, Option, Some, None, refl, if◌then◌else◌}
use Rattle.mdl_key.specs.declared.mode.Mode.{Mode}
use Rattle.mdl_key.specs.declared.mode.Mode.TheVariants.{X}
use Rattle.mdl_key.specs.Words.{same_mode}
use Rattle.mdl_calls.specs.declared.space_error.SpaceError.{SpaceError}
use Rattle.mdl_calls.specs.Words.{Answer, Refused}
use Rattle.mdl_core.specs.CoreCalls.{refused_or, first_cause}
use Rattle.mdl_core.specs.Cores.{Core}

-- by a test
pub test_cases : {A : Type 0} (P : A → Type 0) (test : Bool) (x y : A) → (test ≡ true → P x) → (test ≡ false → P y) → P (if test then x else y)
test_cases P true x y met unmet = met refl
test_cases P false x y met unmet = unmet refl

-- by what there may be
pub option_cases : {A : Type 0} (P : Option A → Type 0) (o : Option A) → (o ≡ None → P None) → ((x : A) → o ≡ Some x → P (Some x)) → P o
option_cases P None none some = none refl
option_cases P (Some x) none some = some x refl

pub not_false : (b : Bool) → not b ≡ false → b ≡ true
not_false true e = refl
not_false false e = cc

pub not_true : (b : Bool) → not b ≡ true → b ≡ false
not_true true e = cc
not_true false e = refl

-- a mode that passes for X is X
pub exclusive-is : (mode : Mode) → same_mode mode X ≡ true → mode ≡ X
exclusive-is X e = refl
exclusive-is _ e = cc

pub not-exclusive : (mode : Mode) → mode ≢ X → same_mode mode X ≡ false
not-exclusive X other = absurd (other refl)
not-exclusive _ other = refl

module _ (P : Answer × Core → Type 0) (a : Core) (outcome : Answer × Core) where
  -- what holds of each refusal where its cause is the first that stands, and of the outcome where none does
  abbrev pub Through : List (Bool × SpaceError) → Type 0
  Through [] = P outcome
  Through (cause ∷ causes) = (cause.0 ≡ true → P (Refused cause.1, a)) × (cause.0 ≡ false → Through causes)

  -- by causes
  pub cause_cases : (causes : List (Bool × SpaceError)) → Through causes → P (refused_or (first_cause causes) a outcome)
  cause_cases [] other = other
  cause_cases (cause ∷ causes) each =
      test_cases (λ (first : Option SpaceError). P (refused_or first a outcome)) cause.0 (Some cause.1) (first_cause causes)
      each.0 (λ e. cause_cases causes (each.1 e))
