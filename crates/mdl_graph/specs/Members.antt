-- The members of a list, by recursion.
use Rattle.std.specs.Prelude.{◌≡◌, ℕ, List, [], ◌∷◌, ◌⊎◌}

-- a value is in a list
abbrev pub Among : {X : Type 0} → X → List X → Type 0
Among x [] = ⊥
Among x (y ∷ ys) = (x ≡ y) ⊎ Among x ys

-- all members of one list are in another
abbrev pub AreAmong : List ℕ → List ℕ → Type 0
AreAmong members others = (x : ℕ) → Among x members → Among x others
