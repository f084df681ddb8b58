-- Lists of what is made of each member of a list.
use Rattle.std.proofs.Common.{◌<◌, List, [], ◌∷◌, length, map, get_or, sym, subst, arith, AllPairs}
use Rattle.std.proofs.lemmas.List.{get_or-map, length-map}

-- what is in a relation stays so as it is mapped
pub pairs-map : {X Y : Type 0} (R : X → X → Type 0) (S : Y → Y → Type 0) (f : X → Y) → ((x y : X) → R x y → S (f x) (f y)) → (xs : List X) → AllPairs R xs
    → AllPairs S (map f xs)
pairs-map R S f step [] pairs i j d lt short = absurd (omega arith)
pairs-map {X} {Y} R S f step (x ∷ xs) pairs i j d lt short =
    let inside : j < length (x ∷ xs) = (let e = length-map (x ∷ xs) f in omega (arith, e, short)) in
    let before : i < length (x ∷ xs) = omega (arith, lt, inside) in
    let first = sym (get_or-map f (x ∷ xs) i x d before) in
    let second = sym (get_or-map f (x ∷ xs) j x d inside) in
    subst (λ (y : Y). S y (get_or (map f (x ∷ xs)) j d)) first (subst (S (f (get_or (x ∷ xs) i x))) second (step _ _ (pairs i j x lt inside)))
