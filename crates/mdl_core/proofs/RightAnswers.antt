-- An answer that is right and the only one, by what a call asks.
use Rattle.std.proofs.Common.{◌≡◌, ◌↔◌, inl, inr}
use Rattle.mdl_calls.specs.declared.space_error.SpaceError.{SpaceError}
use Rattle.mdl_calls.specs.Words.{Answer, Refused}
use Rattle.mdl_core.specs.Determined.{Right, Only, Where, RefusedUnless}

-- this answer is right, and no other
abbrev pub IsAnswer : Right → Answer → Type 0
IsAnswer R x = (y : Answer) → R y ↔ (y ≡ x)

pub only : (x : Answer) → IsAnswer (Only x) x
only x y = ((λ e. e), λ e. e)

module _ (P : Type 0) (Then Else : Right) (x : Answer) where
  pub where-so : P → IsAnswer Then x → IsAnswer (Where P Then Else) x
  where-so p its y = (there, λ e. inl (p, (its y).1 e))
    where
      there : Where P Then Else y → y ≡ x
      there (inl h) = (its y).0 h.1
      there (inr h) = absurd (h.0 p)

  pub where-not : (P → ⊥) → IsAnswer Else x → IsAnswer (Where P Then Else) x
  where-not fails its y = (there, λ e. inr (fails, (its y).1 e))
    where
      there : Where P Then Else y → y ≡ x
      there (inl h) = absurd (fails h.0)
      there (inr h) = (its y).0 h.1

-- what is asked is so
pub met : (P : Type 0) (refusal : SpaceError) (Then : Right) (x : Answer) → P → IsAnswer Then x → IsAnswer (RefusedUnless P refusal Then) x
met P refusal Then x p its = where-so P Then (Only (Refused refusal)) x p its

-- it isn't
pub unmet : (P : Type 0) (refusal : SpaceError) (Then : Right) → (P → ⊥) → IsAnswer (RefusedUnless P refusal Then) (Refused refusal)
unmet P refusal Then fails = where-not P Then (Only (Refused refusal)) (Refused refusal) fails (only (Refused refusal))
