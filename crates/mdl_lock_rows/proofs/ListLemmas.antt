-- Lists that grow by one row.
use Rattle.std.proofs.Common.{◌≡◌, ◌∙◌, ℕ, ◌+◌, ◌<◌, Bool, true, false, cond, List, [], ◌∷◌, ◌++◌, length, drop, get_or, map, filter, refl, sym, ap, add-one, drop-cons}
use Rattle.std.specs.Prelude.{Option, Some, None, filter_map}
use Rattle.std.specs.List.{cons_option}

-- the element at a place, and those behind it
pub drop-here : {A : Type 0} (xs : List A) (i : ℕ) (x : A) → i < length xs → x ≡ get_or xs i x → drop i xs ≡ x ∷ drop (i + 1) xs
drop-here xs i x inside e = drop-cons xs i x inside ∙ (λ k. sym e k ∷ drop (sym (add-one i) k) xs)

-- one more element adds what comes of it
pub passed-cons : {A B : Type 0} (make : A → B) (test : A → Bool) (x : A) (xs : List A) → map make (filter test (x ∷ [])) ++ map make (filter test xs) ≡ map make (filter test (x ∷ xs))
passed-cons make test x xs =
    elim (test x) as (λ b. map make (cond b (x ∷ []) []) ++ map make (filter test xs) ≡ map make (cond b (x ∷ filter test xs) (filter test xs))) [ true ↦ refl | false ↦ refl ]

cons_option-append : {B : Type 0} (one : Option B) (xs ys zs : List B) → zs ≡ xs ++ ys → cons_option one zs ≡ cons_option one xs ++ ys
cons_option-append None xs ys zs e = e
cons_option-append (Some y) xs ys zs e = ap (λ rest. y ∷ rest) e

pub filter_map-append : {A B : Type 0} (f : A → Option B) (xs ys : List A) → filter_map f (xs ++ ys) ≡ filter_map f xs ++ filter_map f ys
filter_map-append f [] ys = refl
filter_map-append f (x ∷ xs) ys = cons_option-append (f x) (filter_map f xs) (filter_map f ys) (filter_map f (xs ++ ys)) (filter_map-append f xs ys)
