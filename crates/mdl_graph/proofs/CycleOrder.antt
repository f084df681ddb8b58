-- The order in which cycles are chosen is total, and two lists that come before each other are one.
use Rattle.std.proofs.Common.{◌≡◌, ℕ, true, List, [], ◌∷◌, length, refl, ◌⊎◌, inl, inr, arith}
use Rattle.std.proofs.lemmas.Bool.{cases_order, false≢true}
use Rattle.std.proofs.lemmas.Bool.Decides.{nat_tests}
use Rattle.mdl_graph.specs.Cycles.{in_order, is_chosen_before}

pub in_order_total : (xs ys : List ℕ) → in_order xs ys ≡ true ⊎ in_order ys xs ≡ true
in_order_total [] ys = inl refl
in_order_total (x ∷ xs) [] = inr refl
in_order_total (x ∷ xs) (y ∷ ys) = elim (cases_order x y) [
  | inl same ↦ elim (in_order_total xs ys) [
    | inl before ↦ inl (grind (arith, nat_tests, same, before))
    | inr after ↦ inr (grind (arith, nat_tests, same, after))
  ]
  | inr apart ↦ elim apart [
    | inl less ↦ inl (grind (arith, nat_tests, less))
    | inr more ↦ inr (grind (arith, nat_tests, more))
  ]
]

pub in_order_trans : (xs ys zs : List ℕ) → in_order xs ys ≡ true → in_order ys zs ≡ true → in_order xs zs ≡ true
in_order_trans [] ys zs first second = refl
in_order_trans (x ∷ xs) [] zs first second = absurd (false≢true first)
in_order_trans (x ∷ xs) (y ∷ ys) [] first second = absurd (false≢true second)
in_order_trans (x ∷ xs) (y ∷ ys) (z ∷ zs) first second = grind (arith, nat_tests, in_order_trans xs ys zs)

pub in_order_same : (xs ys : List ℕ) → in_order xs ys ≡ true → in_order ys xs ≡ true → xs ≡ ys
in_order_same [] [] first second = refl
in_order_same [] (y ∷ ys) first second = absurd (false≢true second)
in_order_same (x ∷ xs) [] first second = absurd (false≢true first)
in_order_same (x ∷ xs) (y ∷ ys) first second = grind (arith, nat_tests, in_order_same xs ys)

pub before_total : (one other : List ℕ) → is_chosen_before one other ≡ true ⊎ is_chosen_before other one ≡ true
before_total one other = elim (cases_order (length one) (length other)) [
  | inl same ↦ elim (in_order_total one other) [
    | inl before ↦ inl (grind (arith, nat_tests, same, before))
    | inr after ↦ inr (grind (arith, nat_tests, same, after))
  ]
  | inr apart ↦ elim apart [
    | inl less ↦ inl (grind (arith, nat_tests, less))
    | inr more ↦ inr (grind (arith, nat_tests, more))
  ]
]

pub before_itself : (one : List ℕ) → is_chosen_before one one ≡ true
before_itself one = elim (before_total one one) [ inl before ↦ before | inr before ↦ before ]

pub before_trans : (one other third : List ℕ) → is_chosen_before one other ≡ true → is_chosen_before other third ≡ true → is_chosen_before one third ≡ true
before_trans one other third first second = grind (arith, nat_tests, in_order_trans one other third)

pub before_same : (one other : List ℕ) → is_chosen_before one other ≡ true → is_chosen_before other one ≡ true → one ≡ other
before_same one other first second = grind (arith, nat_tests, in_order_same one other)
