-- A session's tickets, whose numbers rise: where a search by halves ends.
use Rattle.std.proofs.Common.{◌≡◌, ℕ, suc, ◌<◌, ◌≤◌, Bool, true, false, List, [], ◌∷◌, length, get_or, Result, Ok, Err, refl, sym, ap, subst, ltb, arith, MatchOption, not, ◌==◌}
use Rattle.mdl_shared.proofs.Common.{Gained, HaveRisingNumbers, IX, IsBinarySearchResult, IsNonDecreasingBy, IsSearchInRange, StandsAt, is_own, list_all, nat_cmp, nat_tests, ordering_index, ranked, result_ok, with_note}

abbrev pub no_ticket : Gained
no_ticket = record { id = 0; place = 0; mode = IX; fast = false }

pub each_at : {A : Type 0} (p : A → Bool) (d : A) (xs : List A) → ((k : ℕ) → k < length xs → p (get_or xs k d) ≡ true) → list_all p xs ≡ true
each_at p d [] each = refl
each_at p d (x ∷ xs) each = rw (each 0 (omega arith)) (each_at p d xs (λ k inside. each (suc k) (omega arith)))

module _ (xs : List Gained) (rising : HaveRisingNumbers xs) (id : ℕ) where
  comparisons_rise : IsNonDecreasingBy (λ ticket. ordering_index (nat_cmp ticket.id id)) xs
  comparisons_rise i j d le inside =
      let numbers_rise : (get_or xs i d).id ≤ (get_or xs j d).id = grind (arith, rising i j d, λ (same : i ≡ j). ap (λ k. (get_or xs k d).id) same) in
      grind (arith, nat_tests)

  pub searched : (r : Result ℕ ℕ) → IsSearchInRange r (length xs) → IsBinarySearchResult (λ ticket. nat_cmp ticket.id id) xs r
      → MatchOption (result_ok r) (list_all (λ t. not (t.id == id)) xs ≡ true) (λ at. StandsAt id at xs)
  searched (Ok at) inside equal = (omega (arith, inside), λ d. ranked _ id _ (sym (equal d)))
  searched (Err at) inside parted = each_at _ no_ticket xs (λ k below.
      elim (ltb k at) as (λ b. ltb k at ≡ b → not ((get_or xs k no_ticket).id == id) ≡ true) [
        | true ↦ λ e. let smaller : (get_or xs k no_ticket).id < id = ranked _ id _ (sym ((parted comparisons_rise).0 k no_ticket (omega arith) (grind (arith, nat_tests)))) in grind (arith, nat_tests)
        | false ↦ λ e. let greater : id < (get_or xs k no_ticket).id = ranked _ id _ (sym ((parted comparisons_rise).1 k no_ticket (grind (arith, nat_tests)) below)) in grind (arith, nat_tests)
      ] refl)

  -- the only ticket of the number is elsewhere
  pub elsewhere : (place at : ℕ) (d : Gained) → StandsAt id at xs → ((get_or xs at d).place == place) ≡ false
      → list_all (λ t. not (is_own place id (with_note [] t))) xs ≡ true
  elsewhere place at d stands other = each_at _ d xs (λ k below.
      let one : (get_or xs k d).id ≡ id → k ≡ at = λ same. grind (arith, nat_tests, rising k at d, rising at k d, stands.1 d, stands.0) in
      let there : k ≡ at → ((get_or xs k d).place == place) ≡ false = λ same. subst (λ i. ((get_or xs i d).place == place) ≡ false) (sym same) other in
      grind (arith, nat_tests, one, there))

-- no ticket has the number
pub nowhere : (place id : ℕ) (xs : List Gained) → list_all (λ t. not (t.id == id)) xs ≡ true → list_all (λ t. not (is_own place id (with_note [] t))) xs ≡ true
nowhere place id [] none = refl
nowhere place id (x ∷ xs) none = grind (arith, nat_tests, nowhere place id xs)
