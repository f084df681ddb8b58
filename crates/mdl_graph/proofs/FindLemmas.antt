-- The first element that passes, looked for from the front.
use Rattle.std.proofs.Common.{◌≡◌, ◌<◌, ℕ, zero, suc, Bool, true, false, List, [], ◌∷◌, length, take, get_or, Some, None, refl, arith, cond}
use Rattle.std.specs.Prelude.{find}

pub find_at : {X : Type 0} (test : X → Bool) (xs : List X) (i : ℕ) (d : X) → i < length xs → find test (take i xs) ≡ None
    → test (get_or xs i d) ≡ true → find test xs ≡ Some (get_or xs i d)
find_at test [] i d inside none passes = absurd (omega (arith, inside))
find_at test (x ∷ xs) zero d inside none passes = rw passes refl
find_at test (x ∷ xs) (suc i) d inside none passes =
    elim (test x) as (λ b. cond b (Some x) (find test (take i xs)) ≡ None → cond b (Some x) (find test xs) ≡ Some (get_or xs i d)) [
      | true ↦ λ bad. absurd (grind (arith, bad))
      | false ↦ λ rest. find_at test xs i d (omega (arith, inside)) rest passes
    ] none

pub find_more : {X : Type 0} (test : X → Bool) (xs : List X) (i : ℕ) (d : X) → i < length xs → find test (take i xs) ≡ None
    → test (get_or xs i d) ≡ false → find test (take (suc i) xs) ≡ None
find_more test [] i d inside none fails = refl
find_more test (x ∷ xs) zero d inside none fails = rw fails refl
find_more test (x ∷ xs) (suc i) d inside none fails =
    elim (test x) as (λ b. cond b (Some x) (find test (take i xs)) ≡ None → cond b (Some x) (find test (take (suc i) xs)) ≡ None) [
      | true ↦ λ bad. bad
      | false ↦ λ rest. find_more test xs i d (omega (arith, inside)) rest fails
    ] none
