-- Facts about columns no two of which have one name.
use Rattle.std.proofs.Common.{◌≡◌, refl, sym, ◌∙◌, ℕ, ◌+◌, ◌≤◌, Bool, true, false, not, cond, List, [], ◌∷◌, ◌++◌, length, arith}
use Rattle.std.specs.List.{filter, list_any, IsDistinct, AllByRecursion}
use Rattle.std.specs.Cmp.{IsEquivalence}
use Rattle.std.specs.Cmp.Lexicographic.{nat_list_eq_equiv}
use Rattle.std.proofs.lemmas.Bool.{or_parts}
use Rattle.std.proofs.lemmas.Map.Keys.{IsDistinct-push}
use Rattle.mdl_defs.specs.Columns.{same_column, has_column, names_twice, without_column}

same_column-laws : IsEquivalence same_column
same_column-laws = nat_list_eq_equiv

-- what isn't among the columns differs from each of them
differs_from_each : (column : List ℕ) (columns : List (List ℕ)) → has_column column columns ≡ false → AllByRecursion (λ other. same_column column other ≡ false) columns
differs_from_each column [] absent = tt
differs_from_each column (other ∷ rest) absent =
    let parts : (same_column other column ≡ false) × (has_column column rest ≡ false) = or_parts _ _ absent in
    (same_column-laws.symm column other ∙ parts.0, differs_from_each column rest parts.1)

-- columns none of which is named twice are distinct
pub IsDistinct-from_names_twice : (columns : List (List ℕ)) → names_twice columns ≡ false → IsDistinct same_column columns
unfolding IsDistinct
IsDistinct-from_names_twice [] once = tt
IsDistinct-from_names_twice (column ∷ rest) once =
    let parts : (has_column column rest ≡ false) × (names_twice rest ≡ false) = or_parts _ _ once in
    (differs_from_each column rest parts.0, IsDistinct-from_names_twice rest parts.1)

-- the same, asked the other way round
has_column-turned : (column : List ℕ) (columns : List (List ℕ)) → has_column column columns ≡ list_any (same_column column) columns
has_column-turned column [] = refl
has_column-turned column (other ∷ rest) = rw (same_column-laws.symm other column, has_column-turned column rest) refl

-- one more column, which wasn't there
pub IsDistinct-gained : (column : List ℕ) (columns : List (List ℕ)) → IsDistinct same_column columns → has_column column columns ≡ false → IsDistinct same_column (columns ++ column ∷ [])
IsDistinct-gained column columns distinct absent = IsDistinct-push same_column-laws columns column distinct (sym (has_column-turned column columns) ∙ absent)

module _ {X : Type 0} where
  kept_by : (P : X → Type 0) (keep : Bool) (x : X) (xs : List X) → P x → AllByRecursion P xs → AllByRecursion P (cond keep (x ∷ xs) xs)
  kept_by P true x xs p all = (p, all)
  kept_by P false x xs p all = all

  -- what holds of each holds of each that is kept
  AllByRecursion-filter : (P : X → Type 0) (test : X → Bool) (xs : List X) → AllByRecursion P xs → AllByRecursion P (filter test xs)
  AllByRecursion-filter P test [] all = tt
  AllByRecursion-filter P test (x ∷ xs) all = kept_by P (test x) x (filter test xs) all.0 (AllByRecursion-filter P test xs all.1)

  IsDistinct-cond : (eq : X → X → Bool) (keep : Bool) (x : X) (xs : List X) → AllByRecursion (λ y. eq x y ≡ false) xs → IsDistinct eq xs → IsDistinct eq (cond keep (x ∷ xs) xs)
  unfolding IsDistinct
  IsDistinct-cond eq true x xs differs distinct = (differs, distinct)
  IsDistinct-cond eq false x xs differs distinct = distinct

  -- of distinct ones, those that are kept are distinct
  pub IsDistinct-filter : (eq : X → X → Bool) (test : X → Bool) (xs : List X) → IsDistinct eq xs → IsDistinct eq (filter test xs)
  unfolding IsDistinct
  IsDistinct-filter eq test [] distinct = tt
  IsDistinct-filter eq test (x ∷ xs) distinct =
      IsDistinct-cond eq (test x) x (filter test xs) (AllByRecursion-filter (λ y. eq x y ≡ false) test xs distinct.0) (IsDistinct-filter eq test xs distinct.1)

  length-cond : (keep : Bool) (x : X) (xs : List X) → length (cond keep (x ∷ xs) xs) ≤ length xs + 1
  length-cond true x xs = omega arith
  length-cond false x xs = omega arith

  -- no more are kept than there were
  pub length-filter-le : (test : X → Bool) (xs : List X) → length (filter test xs) ≤ length xs
  length-filter-le test [] = omega arith
  length-filter-le test (x ∷ xs) = omega (arith, length-cond (test x) x (filter test xs), length-filter-le test xs)

  some_kept : (keep later : Bool) (x y : X) (xs : List X) → (keep ≡ false → later ≡ true) → 1 ≤ length (cond keep (x ∷ cond later (y ∷ xs) xs) (cond later (y ∷ xs) xs))
  some_kept true later x y xs other = omega arith
  some_kept false true x y xs other = omega arith
  some_kept false false x y xs other = absurd (let bad : false ≡ true = other refl in cc)

-- of two columns that differ, at most one is the one that is dropped
other_differs : (column a b : List ℕ) → same_column a b ≡ false → not (same_column a column) ≡ false → not (same_column b column) ≡ true
other_differs column a b differ dropped = by_cases (same_column a column) (same_column b column) refl refl dropped
  where
    by_cases : (p q : Bool) → same_column a column ≡ p → same_column b column ≡ q → not p ≡ false → not q ≡ true
    by_cases p false e f d = refl
    by_cases false true e f d = absurd (let bad : true ≡ false = d in cc)
    by_cases true true e f d = absurd (let same : same_column a b ≡ true = same_column-laws.congr a column b e ∙ (same_column-laws.symm column b ∙ f) in let bad : true ≡ false = sym same ∙ differ in cc)

-- of two distinct columns or more, one is left where another is dropped
pub some_left : (column : List ℕ) (columns : List (List ℕ)) → 1 ≤ length columns → (length columns ≡ 1 → ⊥) → IsDistinct same_column columns → 1 ≤ length (without_column column columns)
unfolding IsDistinct
some_left column [] some two distinct = some
some_left column (a ∷ []) some two distinct = absurd (two refl)
some_left column (a ∷ b ∷ rest) some two distinct =
    some_kept (not (same_column a column)) (not (same_column b column)) a b (without_column column rest) (other_differs column a b distinct.0.0)
