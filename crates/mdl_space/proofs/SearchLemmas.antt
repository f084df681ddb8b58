-- Tickets whose numbers rise: where a search by halves ends, and what is left without one of them.
use Rattle.std.proofs.Common.{◌≡◌, ℕ, zero, suc, ◌<◌, ◌≤◌, true, false, List, [], ◌∷◌, length, get_or, Some, None, Result, Ok, Err, refl, sym, ap, ltb, arith}
use Rattle.std.specs.Prelude.{not, filter, find, position, IsTrue, nat_lt}
use Rattle.std.specs.List.{list_all, remove, position_or_len}
use Rattle.std.specs.List.Sorted.{IsSearchInRange, IsBinarySearchResult, IsNonDecreasingBy}
use Rattle.std.specs.Ordering.{nat_cmp, ordering_index}
use Rattle.std.specs.Result.{result_ok}
use Rattle.std.proofs.lemmas.Cmp.{ranked}
use Rattle.std.proofs.lemmas.Bool.Decides.{nat_tests}
use Rattle.std.proofs.lemmas.List.Sums.{position_or_len_is}
use Rattle.std.proofs.lemmas.List.Quantifiers.{position-Some}
use Rattle.mdl_key.specs.declared.mode.Mode.TheVariants.{X}
use Rattle.mdl_book.proofs.TicketLemmas.{none_at}
use Rattle.mdl_calls.specs.declared.answers.Held.{Held}
use Rattle.mdl_calls.specs.SessionLocks.{are_rising, is_number}

below_at : (n : ℕ) (xs : List Held) (j : ℕ) (d : Held) → IsTrue (list_all (λ other. nat_lt n other.id) xs) → j < length xs → n < (get_or xs j d).id
below_at n [] j d above inside = absurd (omega arith)
below_at n (x ∷ xs) zero d above inside = grind (arith, nat_tests)
below_at n (x ∷ xs) (suc j) d above inside = grind (arith, nat_tests, below_at n xs j d)

-- an earlier ticket has a lower number
pub rises : (xs : List Held) (i j : ℕ) (d : Held) → IsTrue (are_rising xs) → i < j → j < length xs → (get_or xs i d).id < (get_or xs j d).id
rises [] i j d rising before inside = absurd (omega arith)
rises (x ∷ xs) i zero d rising before inside = absurd (omega arith)
rises (x ∷ xs) zero (suc j) d rising before inside = grind (arith, nat_tests, below_at x.id xs j d)
rises (x ∷ xs) (suc i) (suc j) d rising before inside = grind (arith, nat_tests, rises xs i j d)

-- ---- where a search by halves ends

no_ticket : Held
no_ticket = record { id = 0; place = 0; mode = X }

module _ (xs : List Held) (rising : IsTrue (are_rising xs)) (id : ℕ) where
  comparisons_rise : IsNonDecreasingBy (λ ticket. ordering_index (nat_cmp ticket.id id)) xs
  comparisons_rise i j d le inside =
      let numbers_rise : (get_or xs i d).id ≤ (get_or xs j d).id = grind (arith, rises xs i j d rising, λ (same : i ≡ j). ap (λ k. (get_or xs k d).id) same) in
      grind (arith, nat_tests)

  -- a ticket of the number is the first of it
  pub found-at : (at : ℕ) (d : Held) → at < length xs → (get_or xs at d).id ≡ id → Some at ≡ position (is_number id) xs
  found-at at d inside here =
      let first : position_or_len (is_number id) xs ≡ at =
      position_or_len_is (is_number id) xs at d (omega (arith, inside)) (λ k below. grind (arith, nat_tests, rises xs k at d rising)) (λ _. grind (arith, nat_tests)) in
      rw first (grind (arith, nat_tests))

  pub searched : (r : Result ℕ ℕ) → IsSearchInRange r (length xs) → IsBinarySearchResult (λ ticket. nat_cmp ticket.id id) xs r → result_ok r ≡ position (is_number id) xs
  searched (Ok at) inside equal = found-at at no_ticket (omega (arith, inside)) (ranked _ id _ (sym (equal no_ticket)))
  searched (Err at) inside parted =
      let none : position_or_len (is_number id) xs ≡ length xs =
      position_or_len_is (is_number id) xs (length xs) no_ticket (omega arith) (λ k below.
      elim (ltb k at) as (λ b. ltb k at ≡ b → is_number id (get_or xs k no_ticket) ≡ false) [
        | true ↦ λ e. let smaller : (get_or xs k no_ticket).id < id = ranked _ id _ (sym ((parted comparisons_rise).0 k no_ticket (omega arith) (grind (arith, nat_tests)))) in grind (arith, nat_tests)
        | false ↦ λ e. let greater : id < (get_or xs k no_ticket).id = ranked _ id _ (sym ((parted comparisons_rise).1 k no_ticket (grind (arith, nat_tests)) below)) in grind (arith, nat_tests)
      ] refl) (λ no. absurd (omega arith)) in
      rw none (grind (arith, nat_tests))

-- ---- without a ticket

all_others : (id : ℕ) (xs : List Held) → IsTrue (list_all (λ other. nat_lt id other.id) xs) → filter (λ ticket. not (is_number id ticket)) xs ≡ xs
all_others id [] above = refl
all_others id (x ∷ xs) above = grind (arith, nat_tests, all_others id xs)

taken_at : (id : ℕ) (xs : List Held) (at : ℕ) (d : Held) → IsTrue (are_rising xs) → at < length xs → (get_or xs at d).id ≡ id
    → filter (λ ticket. not (is_number id ticket)) xs ≡ remove xs at
taken_at id [] at d rising inside here = absurd (omega arith)
taken_at id (x ∷ xs) zero d rising inside here = grind (arith, nat_tests, all_others id xs)
taken_at id (x ∷ xs) (suc at) d rising inside here =
    let before : x.id < id = grind (arith, rises (x ∷ xs) 0 (suc at) d rising) in
    grind (arith, nat_tests, taken_at id xs at d)

-- where a number is, to take the ticket out at its place is to keep those of other numbers
pub without_at : (id : ℕ) (xs : List Held) (at : ℕ) → IsTrue (are_rising xs) → Some at ≡ position (is_number id) xs
    → filter (λ ticket. not (is_number id ticket)) xs ≡ remove xs at
without_at id xs at rising place =
    let found = position-Some (is_number id) xs at no_ticket (sym place) in
    let here : (get_or xs at no_ticket).id ≡ id = grind (arith, nat_tests, found.1) in
    taken_at id xs at no_ticket rising found.0 here

none_taken : (id : ℕ) (xs : List Held) → find (is_number id) xs ≡ None → filter (λ ticket. not (is_number id ticket)) xs ≡ xs
none_taken id [] none = refl
none_taken id (x ∷ xs) none = grind (arith, nat_tests, none_taken id xs)

-- where no ticket has a number, all are of others
pub without_none : (id : ℕ) (xs : List Held) → None ≡ position (is_number id) xs → filter (λ ticket. not (is_number id ticket)) xs ≡ xs
without_none id xs place = none_taken id xs (none_at (is_number id) xs place)
