-- Definitions on lists, which the rule of the table uses.
use Rattle.std.specs.Prelude.{◌≡◌, List, [], ◌∷◌, None}
use Rattle.mdl_steps.specs.Prelude.{Ticket, ticket_of}

-- `P` holds for each element of the list
abbrev pub Each : {X : Type 0} → (X → Type 0) → List X → Type 0
Each P [] = Unit {0}
Each P (x ∷ xs) = P x × Each P xs

-- no element is in the list twice
abbrev pub Distinct : {X : Type 0} → List X → Type 0
Distinct [] = Unit {0}
Distinct (x ∷ xs) = Each (λ y. (x ≡ y) → ⊥) xs × Distinct xs

-- no two tickets have the same session and number
abbrev pub Once : List Ticket → Type 0
Once [] = Unit {0}
Once (t ∷ ts) = (ticket_of t.session t.number ts ≡ None) × Once ts
