-- The last element of a list.
use Rattle.std.proofs.Common.{◌≡◌, ℕ, zero, suc, ◌+◌, ◌-◌, List, [], ◌∷◌, length, get_or, set, refl, ap, arith, Result, Ok, Err, OnOk}
use Rattle.mdl_client_table.specs.Tables.{RowText, changed_last}
use Rattle.mdl_client_table.specs.Vertical.{last_count}

pub on_ok-map : {T E A B : Type 0} (result : Result T E) → (A → B) → OnOk result A → OnOk result B
on_ok-map (Ok x) f a = f a
on_ok-map (Err e) f a = a

-- the last element is another one
pub changed_last-set : {A : Type 0} (make : A → A) (list : List A) (place : ℕ) (d : A) → place + 1 ≡ length list
    → set list place (make (get_or list place d)) ≡ changed_last make list
changed_last-set make [] place d last = absurd (omega (arith, last))
changed_last-set make (one ∷ []) zero d last = refl
changed_last-set make (one ∷ []) (suc place) d last = absurd (omega (arith, last))
changed_last-set make (one ∷ next ∷ list) zero d last = absurd (omega (arith, last))
changed_last-set make (one ∷ next ∷ list) (suc place) d last = ap (λ rest. one ∷ rest) (changed_last-set make (next ∷ list) place d (omega (arith, last)))

pub last_count-at : (rows : List RowText) (place : ℕ) (d : RowText) → place + 1 ≡ length rows → length (get_or rows place d).fields ≡ last_count rows
last_count-at [] place d last = absurd (omega (arith, last))
last_count-at (row ∷ []) zero d last = refl
last_count-at (row ∷ []) (suc place) d last = absurd (omega (arith, last))
last_count-at (row ∷ next ∷ rows) zero d last = absurd (omega (arith, last))
last_count-at (row ∷ next ∷ rows) (suc place) d last = last_count-at (next ∷ rows) place d (omega (arith, last))
