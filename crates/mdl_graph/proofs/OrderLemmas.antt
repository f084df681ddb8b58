-- Which of two cycles is chosen, told by facts.
use Rattle.std.proofs.Common.{◌≡◌, ℕ, zero, suc, ◌<◌, true, List, [], ◌∷◌, length, take, get_or, ◌↔◌, ◌⊎◌, inl, inr, refl, subst, arith}
use Rattle.std.specs.Prelude.{IsTrue}
use Rattle.std.proofs.lemmas.Bool.{cases_lt, false≢true}
use Rattle.std.proofs.lemmas.Bool.Decides.{nat_tests}
use Rattle.mdl_graph.specs.Cycles.{in_order, is_chosen_before}
use Rattle.mdl_graph.proofs.CycleOrder.{before_itself}
use Rattle.mdl_graph.specs.GraphLaws.{IsLessAtFirst}

-- of two lists as long, in order
less_or_same : (one other : List ℕ) → length one ≡ length other → in_order one other ≡ true → (one ≡ other) ⊎ IsLessAtFirst one other
less_or_same [] [] long ordered = inl refl
less_or_same [] (y ∷ ys) long ordered = absurd (omega (arith, long))
less_or_same (x ∷ xs) [] long ordered = absurd (false≢true ordered)
less_or_same (x ∷ xs) (y ∷ ys) long ordered = elim (cases_lt x y) [
  | inl less ↦ inr (0, omega arith, omega arith, refl, less)
  | inr least ↦
      let same : x ≡ y = grind (arith, nat_tests) in
      let after : in_order xs ys ≡ true = grind (arith, nat_tests) in
      elim (less_or_same xs ys (omega (arith, long)) after) [
        | inl alike ↦ inl (cc)
        | inr less ↦ inr (suc less.0, omega (arith, less.1), omega (arith, less.2), rw (same, less.3) refl, less.4)
      ]
]

in_order_less : (one other : List ℕ) (k : ℕ) → k < length one → k < length other → take k one ≡ take k other → get_or one k 0 < get_or other k 0
    → in_order one other ≡ true
in_order_less [] other k inside within same less = absurd (omega (arith, inside))
in_order_less (x ∷ xs) [] k inside within same less = absurd (omega (arith, within))
in_order_less (x ∷ xs) (y ∷ ys) zero inside within same less = grind (arith, nat_tests)
in_order_less (x ∷ xs) (y ∷ ys) (suc k) inside within same less =
    let first : x ≡ y = grind (arith, same) in
    let others : take k xs ≡ take k ys = grind (arith, same) in
    let after : in_order xs ys ≡ true = in_order_less xs ys k (omega (arith, inside)) (omega (arith, within)) others less in
    grind (arith, nat_tests, first, after)

pub before_by : (one other : List ℕ) → IsTrue (is_chosen_before one other)
    ↔ ((one ≡ other) ⊎ (length one < length other) ⊎ ((length one ≡ length other) × IsLessAtFirst one other))
before_by one other = (told, tells) where
  told : IsTrue (is_chosen_before one other)
      → (one ≡ other) ⊎ (length one < length other) ⊎ ((length one ≡ length other) × IsLessAtFirst one other)
  told before = elim (cases_lt (length one) (length other)) [
    | inl shorter ↦ inr (inl shorter)
    | inr least ↦
        let long : length one ≡ length other = grind (arith, nat_tests) in
        let ordered : in_order one other ≡ true = grind (arith, nat_tests) in
        elim (less_or_same one other long ordered) [ inl same ↦ inl same | inr less ↦ inr (inr (long, less)) ]
  ]

  tells : (one ≡ other) ⊎ (length one < length other) ⊎ ((length one ≡ length other) × IsLessAtFirst one other)
      → IsTrue (is_chosen_before one other)
  tells (inl same) = subst (λ (list : List ℕ). is_chosen_before one list ≡ true) same (before_itself one)
  tells (inr (inl shorter)) = grind (arith, nat_tests, shorter)
  tells (inr (inr less)) =
      let ordered : in_order one other ≡ true = in_order_less one other less.1.0 less.1.1 less.1.2 less.1.3 less.1.4 in
      grind (arith, nat_tests, less.0, ordered)
