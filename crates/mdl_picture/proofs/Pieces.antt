-- Texts of elements that are put there one after the other.
use Rattle.std.proofs.Common.{◌≡◌, ◌∙◌, List, [], ◌∷◌, ◌++◌, Result, Ok, Err, OnOk, ℕ, ap, sym, append_assoc, append-nil}
use Rattle.std.specs.List.{flat_map}
use Rattle.std.proofs.lemmas.Grind.{flat_map-append}

-- a text behind others
pub behind : (out done piece now new : List ℕ) → now ≡ out ++ done → new ≡ now ++ piece → new ≡ out ++ (done ++ piece)
behind out done piece now new others last = last ∙ ap (λ xs. xs ++ piece) others ∙ append_assoc out done piece

-- the first element
pub first : {X : Type 0} (f : X → List ℕ) (out now : List ℕ) (x : X) → now ≡ out ++ f x → now ≡ out ++ flat_map f (x ∷ [])
first f out now x put = put ∙ ap (λ xs. out ++ xs) (sym (append-nil (f x)))

-- elements behind others
pub more : {X : Type 0} (f : X → List ℕ) (out now new : List ℕ) (xs ys : List X) → now ≡ out ++ flat_map f xs → new ≡ now ++ flat_map f ys
    → new ≡ out ++ flat_map f (xs ++ ys)
more f out now new xs ys others last =
    behind out (flat_map f xs) (flat_map f ys) now new others last ∙ ap (λ zs. out ++ zs) (sym (flat_map-append f xs ys))

-- one element behind others
pub next : {X : Type 0} (f : X → List ℕ) (out now new : List ℕ) (xs : List X) (x : X) → now ≡ out ++ flat_map f xs → new ≡ now ++ f x
    → new ≡ out ++ flat_map f (xs ++ x ∷ [])
next f out now new xs x others last = more f out now new xs (x ∷ []) others (first f now new x last)

-- the same where the last could be put there
pub last_more : {X T E : Type 0} (f : X → List ℕ) (result : Result T E) (out now new : List ℕ) (xs ys : List X) → now ≡ out ++ flat_map f xs
    → OnOk result (new ≡ now ++ flat_map f ys) → OnOk result (new ≡ out ++ flat_map f (xs ++ ys))
last_more f (Ok v) out now new xs ys others last = more f out now new xs ys others last
last_more f (Err e) out now new xs ys others last = last

pub last_next : {X T E : Type 0} (f : X → List ℕ) (result : Result T E) (out now new : List ℕ) (xs : List X) (x : X) → now ≡ out ++ flat_map f xs
    → OnOk result (new ≡ now ++ f x) → OnOk result (new ≡ out ++ flat_map f (xs ++ x ∷ []))
last_next f (Ok v) out now new xs x others last = next f out now new xs x others last
last_next f (Err e) out now new xs x others last = last
