-- Parts of a line, which are borrowed.
use Rattle.std.proofs.Common.{◌≡◌, ◌∙◌, ◌-◌, List, [], ◌∷◌, Bor, map, take, drop, length, refl, sym, ap, arith}
use Rattle.std.specs.List.{take-map, drop-map}
use Rattle.std.proofs.lemmas.List.{length-map}

pub read-parts : {A B : Type 0} (read : A → B) (parts : List (Bor A)) → map (λ (part : Bor A). read part.now) parts ≡ map read (map (λ (part : Bor A). part.now) parts)
read-parts read [] = refl
read-parts read (part ∷ parts) = ap (λ rest. read part.now ∷ rest) (read-parts read parts)

-- the parts between the first and the last
pub inner-parts : {A : Type 0} (parts : List (Bor A)) (values : List A) → map (λ (part : Bor A). part.now) parts ≡ values
    → map (λ (part : Bor A). part.now) (take (length parts - 1 - 1) (drop 1 parts)) ≡ take (length values - 2) (drop 1 values)
inner-parts {A} parts values are =
    let now = λ (part : Bor A). part.now in
    let few : length parts - 1 - 1 ≡ length values - 2 = omega (arith, length-map parts now, ap length are) in
    sym (take-map now (length parts - 1 - 1) (drop 1 parts)) ∙ ap (take (length parts - 1 - 1)) (sym (drop-map now 1 parts) ∙ ap (drop 1) are)
    ∙ ap (λ n. take n (drop 1 values)) few
