-- Two texts are equal if and only if both parts of them are, cut at one place.
use Rattle.std.proofs.Common.{◌≡◌, ℕ, zero, suc, Bool, true, false, ◌&&◌, ◌==◌, List, [], ◌∷◌, refl, arith}
use Rattle.std.specs.Prelude.{drop, take}
use Rattle.std.specs.Cmp.Lexicographic.{pointwise}
use Rattle.std.proofs.lemmas.Bool.Decides.{nat_tests}

pub cut-equal : (cut : ℕ) (a b : List ℕ) → pointwise ◌==◌ a b ≡ (pointwise ◌==◌ (take cut a) (take cut b) && pointwise ◌==◌ (drop cut a) (drop cut b))
cut-equal zero a b = refl
cut-equal (suc cut) [] [] = refl
cut-equal (suc cut) [] (y ∷ ys) = refl
cut-equal (suc cut) (x ∷ xs) [] = refl
cut-equal (suc cut) (x ∷ xs) (y ∷ ys) = grind (arith, nat_tests, cut-equal cut xs ys)
