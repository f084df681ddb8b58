-- The places of a schema's tables, as one more place is looked at.
use Rattle.std.proofs.Common.{◌≡◌, ◌+◌, ℕ, suc, Bool, true, false, cond, All, List, [], ◌∷◌, filter, refl, ap, ◌∙◌, if◌then◌else◌}
use Rattle.std.specs.List.{range_with_len}
use Rattle.std.proofs.lemmas.List.Elements.{All-cons, All-head, All-tail}
use Rattle.mdl_core.proofs.CallCases.{test_cases}
use Rattle.mdl_core.specs.Words.{Core, comes_before, has_defined_table, has_key, places_in_key_order, put_in_order}

module _ (core : Core) where
  -- the place before those that were looked at is listed, if such a table has it
  pub one-more_listed : (schema : List ℕ) (place n : ℕ) (places : List ℕ)
      → places ≡ places_in_key_order core (filter (has_defined_table schema core) (range_with_len (place + 1) n))
      → (if has_defined_table schema core place then put_in_order core place places else places)
      ≡ places_in_key_order core (filter (has_defined_table schema core) (range_with_len place (suc n)))
  one-more_listed schema place n places so =
      ap (λ (l : List ℕ). if has_defined_table schema core place then put_in_order core place l else l) so
      ∙ by (has_defined_table schema core place) (filter (has_defined_table schema core) (range_with_len (place + 1) n))
    where
      by : (b : Bool) (rest : List ℕ)
          → (if b then put_in_order core place (places_in_key_order core rest) else places_in_key_order core rest) ≡ places_in_key_order core (cond b (place ∷ rest) rest)
      by true rest = refl
      by false rest = refl

  -- the places that are listed have keys
  abbrev HasKey : ℕ → Type 0
  HasKey place = has_key place core ≡ true

  put-keys : (place : ℕ) (places : List ℕ) → HasKey place → All HasKey places → All HasKey (put_in_order core place places)
  put-keys place [] has all = All-cons HasKey place [] has all
  put-keys place (other ∷ others) has all =
      test_cases (All HasKey) (comes_before core place other) (place ∷ other ∷ others) (other ∷ put_in_order core place others)
      (λ _. All-cons HasKey place (other ∷ others) has all)
      (λ _. All-cons HasKey other (put_in_order core place others) (All-head HasKey other others all)
      (put-keys place others has (All-tail HasKey other others all)))

  pub listed-keys : (b : Bool) (place : ℕ) (places : List ℕ) → has_key place core ≡ true → All (λ other. has_key other core ≡ true) places
      → All (λ other. has_key other core ≡ true) (if b then put_in_order core place places else places)
  listed-keys b place places has all = test_cases (All HasKey) b (put_in_order core place places) places (λ _. put-keys place places has all) (λ _. all)
