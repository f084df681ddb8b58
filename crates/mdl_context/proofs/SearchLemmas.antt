-- Tickets whose numbers rise: where a search by halves ends.
use Rattle.std.proofs.Common.{◌≡◌, ℕ, zero, suc, ◌+◌, ◌-◌, ◌<◌, ◌≤◌, Bool, true, false, cond, List, [], ◌∷◌, ◌++◌, length, get_or, take, Some, None, Option, Result, Ok, Err, refl, sym, ap, ◌∙◌, append-nil, ltb, arith}
use Rattle.std.specs.Prelude.{position, is_some, nat_lt, slice_get}
use Rattle.std.specs.List.{list_any, position_or_len, remove}
use Rattle.std.specs.List.Sorted.{IsSearchInRange, IsBinarySearchResult, IsNonDecreasingBy}
use Rattle.std.specs.Ordering.{nat_cmp, ordering_index}
use Rattle.std.specs.Result.{result_ok}
use Rattle.std.proofs.lemmas.Cmp.{ranked}
use Rattle.std.proofs.lemmas.Bool.Decides.{nat_tests}
use Rattle.std.proofs.lemmas.List.{drop_all}
use Rattle.std.proofs.lemmas.Option.{get_or_from_slice_get}
use Rattle.std.proofs.lemmas.List.Sums.{position_or_len_is}
use Rattle.std.proofs.lemmas.List.Quantifiers.{position-Some}
use Rattle.mdl_key.specs.declared.mode.Mode.TheVariants.{X}
use Rattle.mdl_key.specs.declared.mode.Duration.TheVariants.{Explicit}
use Rattle.mdl_context.specs.declared.kept.Kept.{Kept}
use Rattle.mdl_context.specs.Contexts.{AreRising, has_number}
use Rattle.mdl_context.specs.Holdings.{has_ticket_number, without_number}
use Rattle.mdl_context.proofs.FrontLemmas.{Above}

below_at : (n : ℕ) (xs : List Kept) (j : ℕ) (d : Kept) → Above n xs → j < length xs → n < (get_or xs j d).id
below_at n [] j d above inside = absurd (omega arith)
below_at n (x ∷ xs) zero d above inside = grind (arith, nat_tests)
below_at n (x ∷ xs) (suc j) d above inside = grind (arith, nat_tests, below_at n xs j d)

-- an earlier ticket has a lower number
pub rises : (xs : List Kept) (i j : ℕ) (d : Kept) → AreRising xs → i < j → j < length xs → (get_or xs i d).id < (get_or xs j d).id
rises [] i j d rising before inside = absurd (omega arith)
rises (x ∷ xs) i zero d rising before inside = absurd (omega arith)
rises (x ∷ xs) zero (suc j) d rising before inside = grind (arith, nat_tests, below_at x.id xs j d)
rises (x ∷ xs) (suc i) (suc j) d rising before inside = grind (arith, nat_tests, rises xs i j d)

pub no_ticket : Kept
no_ticket = record { id = 0; place = 0; mode = X; duration = Explicit }

module _ (xs : List Kept) (rising : AreRising xs) (id : ℕ) where
  comparisons_rise : IsNonDecreasingBy (λ ticket. ordering_index (nat_cmp ticket.id id)) xs
  comparisons_rise i j d le inside =
      let numbers_rise : (get_or xs i d).id ≤ (get_or xs j d).id = grind (arith, rises xs i j d rising, λ (same : i ≡ j). ap (λ k. (get_or xs k d).id) same) in
      grind (arith, nat_tests)

  pub searched : (r : Result ℕ ℕ) → IsSearchInRange r (length xs) → IsBinarySearchResult (λ ticket. nat_cmp ticket.id id) xs r → result_ok r ≡ position (has_ticket_number id) xs
  searched (Ok at) inside equal =
      let here : (get_or xs at no_ticket).id ≡ id = ranked _ id _ (sym (equal no_ticket)) in
      let first : position_or_len (has_ticket_number id) xs ≡ at =
      position_or_len_is (has_ticket_number id) xs at no_ticket (omega (arith, inside)) (λ k below. grind (arith, nat_tests, rises xs k at no_ticket rising)) (λ _. grind (arith, nat_tests)) in
      rw first (grind (arith, nat_tests))
  searched (Err at) inside parted =
      let none : position_or_len (has_ticket_number id) xs ≡ length xs =
      position_or_len_is (has_ticket_number id) xs (length xs) no_ticket (omega arith) (λ k below.
      elim (ltb k at) as (λ b. ltb k at ≡ b → has_ticket_number id (get_or xs k no_ticket) ≡ false) [
        | true ↦ λ e. let smaller : (get_or xs k no_ticket).id < id = ranked _ id _ (sym ((parted comparisons_rise).0 k no_ticket (omega arith) (grind (arith, nat_tests)))) in grind (arith, nat_tests)
        | false ↦ λ e. let greater : id < (get_or xs k no_ticket).id = ranked _ id _ (sym ((parted comparisons_rise).1 k no_ticket (grind (arith, nat_tests)) below)) in grind (arith, nat_tests)
      ] refl) (λ no. absurd (omega arith)) in
      rw none (grind (arith, nat_tests))

-- a ticket is found where it is
pub number-at : (xs : List Kept) (at : ℕ) (d : Kept) → AreRising xs → at < length xs → position (has_ticket_number (get_or xs at d).id) xs ≡ Some at
number-at xs at d rising inside =
    let id = (get_or xs at d).id in
    let first : position_or_len (has_ticket_number id) xs ≡ at =
    position_or_len_is (has_ticket_number id) xs at d (omega (arith, inside)) (λ k below. grind (arith, nat_tests, rises xs k at d rising)) (λ _. grind (arith, nat_tests)) in
    rw first (grind (arith, nat_tests))

-- the last ticket is found where the list ends
pub number-last : (xs : List Kept) (t : Kept) → AreRising xs → Some t ≡ slice_get xs (length xs - 1) → Some (length xs - 1) ≡ position (has_ticket_number t.id) xs
number-last [] t rising there = cc
number-last (x ∷ xs) t rising there =
    let at = length (x ∷ xs) - 1 in
    let inside : at < length (x ∷ xs) = omega arith in
    let here : get_or (x ∷ xs) at t ≡ t = get_or_from_slice_get (x ∷ xs) at t t (sym there) in
    sym (ap (λ (y : Kept). position (has_ticket_number y.id) (x ∷ xs)) (sym here) ∙ number-at (x ∷ xs) at t rising inside)

inside-any : (p : Kept → Bool) (xs : List Kept) → nat_lt (position_or_len p xs) (length xs) ≡ list_any p xs
inside-any p [] = refl
inside-any p (x ∷ xs) = grind (arith, nat_tests, inside-any p xs)

chosen : (b : Bool) (n : ℕ) → is_some (cond b (Some n) None) ≡ b
chosen true n = refl
chosen false n = refl

-- a number has a place just where a ticket has it
pub placed : (id : ℕ) (xs : List Kept) (place : Option ℕ) → place ≡ position (has_ticket_number id) xs → is_some place ≡ has_number xs id
placed id xs place at = ap is_some at ∙ chosen _ _ ∙ inside-any (has_ticket_number id) xs

-- ---- without a ticket

-- no other ticket has a lower number
pub all_others : (id : ℕ) (xs : List Kept) → Above id xs → without_number id xs ≡ xs
all_others id [] above = refl
all_others id (x ∷ xs) above = grind (arith, nat_tests, all_others id xs)

taken_at : (id : ℕ) (xs : List Kept) (at : ℕ) (d : Kept) → AreRising xs → at < length xs → (get_or xs at d).id ≡ id → without_number id xs ≡ remove xs at
taken_at id [] at d rising inside here = absurd (omega arith)
taken_at id (x ∷ xs) zero d rising inside here = grind (arith, nat_tests, all_others id xs)
taken_at id (x ∷ xs) (suc at) d rising inside here =
    let before : x.id < id = grind (arith, rises (x ∷ xs) 0 (suc at) d rising) in
    grind (arith, nat_tests, taken_at id xs at d)

-- where a number is, to take the ticket out at its place is to keep those of other numbers
pub without_at : (id : ℕ) (xs : List Kept) (at : ℕ) → AreRising xs → Some at ≡ position (has_ticket_number id) xs → without_number id xs ≡ remove xs at
without_at id xs at rising place =
    let found = position-Some (has_ticket_number id) xs at no_ticket (sym place) in
    let here : (get_or xs at no_ticket).id ≡ id = grind (arith, nat_tests, found.1) in
    taken_at id xs at no_ticket rising found.0 here

-- and where that is the end, the others are those before it
pub without_end : (id : ℕ) (xs : List Kept) (at : ℕ) → AreRising xs → Some at ≡ position (has_ticket_number id) xs → at + 1 ≡ length xs → without_number id xs ≡ take (length xs - 1) xs
without_end id xs at rising place ends =
    let before : at ≡ length xs - 1 = omega (arith, ends) in
    without_at id xs at rising place
    ∙ ap (λ (ys : List Kept). take at xs ++ ys) (drop_all (suc at) xs (omega (arith, ends)))
    ∙ append-nil (take at xs)
    ∙ ap (λ (n : ℕ). take n xs) before

none_taken : (id : ℕ) (xs : List Kept) → has_number xs id ≡ false → without_number id xs ≡ xs
none_taken id [] none = refl
none_taken id (x ∷ xs) none = grind (arith, nat_tests, none_taken id xs)

-- where no ticket has a number, all are of others
pub without_none : (id : ℕ) (xs : List Kept) → None ≡ position (has_ticket_number id) xs → without_number id xs ≡ xs
without_none id xs place = none_taken id xs (sym (placed id xs None place))
