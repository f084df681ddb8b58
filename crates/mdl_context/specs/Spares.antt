-- Where a context may know a place that it doesn't need, as its code marks it.
use Rattle.std.specs.Prelude.{◌≡◌, ℕ, Bool, true, false, ◌||◌, ◌==◌, List, All}
use Rattle.std.specs.List.{Contains}
use Rattle.mdl_key.specs.Keys.{KeyName}
use Rattle.mdl_context.specs.declared.spare.Spare.{Spare}
use Rattle.mdl_context.specs.declared.spare.Spare.TheVariants.{Nowhere, At, Anywhere}

-- whether a place is marked
abbrev pub marks : Spare → ℕ → Bool
marks Nowhere place = false
marks (At other) place = other == place
marks Anywhere place = true

-- each known place is needed or marked
abbrev pub AreMarked : Spare → (ℕ → Bool) → List (KeyName × ℕ) → Type 0
AreMarked spare needs known = All (λ entry. (needs entry.1 || marks spare entry.1) ≡ true) known

-- no two keys are known at a place
abbrev pub HasOneKey : ℕ → List (KeyName × ℕ) → Type 0
HasOneKey place known = (key other : KeyName) → Contains known (key, place) → Contains known (other, place) → key ≡ other
