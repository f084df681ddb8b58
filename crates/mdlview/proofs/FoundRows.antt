-- What the rows of a parse have of an option.
use Rattle.std.proofs.Common.{◌≡◌, ◌∙◌, ◌||◌, ap, ap₂, refl, sym, codes, true, false, Bool, List, [], ◌∷◌, ◌++◌, Option, Some, None, true≢false, append-nil, if◌then◌else◌}
use Rattle.std.specs.List.{find, list_any}
use Rattle.std.specs.Option.{option_or}
use Rattle.std.specs.Str.{bytes_eq}
use Rattle.std.proofs.lemmas.List.Folds.{find-append, list_any-append}
use Rattle.clap.specs.Walk.{Row, Text, at_row, first_of, has_row, one_of}
use Rattle.clap.specs.declared.builder.value_parser.Reading.TheVariants.{AsWritten}

-- nothing, or a text as it was written
abbrev pub Has : Text → List Row → Option Text → Type 0
Has id rows None = has_row id rows ≡ false
Has id rows (Some text) = (has_row id rows ≡ true) × (row : Row) × (find (λ r. bytes_eq r.id id) rows ≡ Some row) × (row.values ≡ text ∷ []) × (row.reading ≡ AsWritten)

-- where there is no row of an id, it is added behind the others
pub at_fresh : (id : Text) (change : Row → List Row) (missing rows : List Row) → has_row id rows ≡ false → at_row id change missing rows ≡ rows ++ missing
at_fresh id change missing [] fresh = refl
at_fresh id change missing (r ∷ rs) fresh = go (bytes_eq r.id id) fresh (at_fresh id change missing rs)
  where
    go : (b : Bool) → (b || has_row id rs) ≡ false → (has_row id rs ≡ false → at_row id change missing rs ≡ rs ++ missing)
        → (if b then change r ++ rs else r ∷ at_row id change missing rs) ≡ r ∷ (rs ++ missing)
    go true bad behind = absurd (true≢false bad)
    go false free behind = ap (λ xs. r ∷ xs) (behind free)

none_found : {X : Type 0} (test : X → Bool) (xs : List X) → list_any test xs ≡ false → find test xs ≡ None
none_found test [] none = refl
none_found test (x ∷ xs) none = go (test x) none (none_found test xs)
  where
    go : (b : Bool) → (b || list_any test xs) ≡ false → (list_any test xs ≡ false → find test xs ≡ None) → (if b then Some x else find test xs) ≡ None
    go true bad behind = absurd (true≢false bad)
    go false free behind = behind free

-- one more row
module _ (id : Text) (rows : List Row) (row : Row) where
  -- is that of the id
  pub has_new : (text : Text) → bytes_eq row.id id ≡ true → row.values ≡ text ∷ [] → row.reading ≡ AsWritten → has_row id rows ≡ false → Has id (rows ++ row ∷ []) (Some text)
  has_new text same values reading fresh =
      let is = ap (λ b. b || false) same in (
        list_any-append (λ r. bytes_eq r.id id) rows (row ∷ []) ∙ ap₂ (λ a b. a || b) fresh is,
        row,
        find-append (λ r. bytes_eq r.id id) rows (row ∷ []) ∙ ap₂ (λ a b. option_or a (if b then Some row else None)) (none_found (λ r. bytes_eq r.id id) rows fresh) same,
        values,
        reading,
      )

  -- is of another
  pub has_kept : (text : Option Text) → bytes_eq row.id id ≡ false → Has id rows text → Has id (rows ++ row ∷ []) text
  has_kept None other has =
      list_any-append (λ r. bytes_eq r.id id) rows (row ∷ []) ∙ ap₂ (λ a b. a || (b || false)) has other
  has_kept (Some text) other (has, found, is, values, reading) = (
    list_any-append (λ r. bytes_eq r.id id) rows (row ∷ []) ∙ ap (λ a. a || (bytes_eq row.id id || false)) has,
    found,
    find-append (λ r. bytes_eq r.id id) rows (row ∷ []) ∙ ap (λ a. option_or a (find (λ r. bytes_eq r.id id) (row ∷ []))) is,
    values,
    reading,
  )

-- what the getters read of it
pub one_read : (id : Text) (rows : List Row) (text : Option Text) → Has id rows text → one_of id rows ≡ text
one_read id rows None has = ap (λ o. Rattle.std.specs.Prelude.option_and_then Rattle.clap.specs.Walk.row_text o) (none_found (λ r. bytes_eq r.id id) rows has)
one_read id rows (Some text) (has, row, is, values, reading) = rw is (rw values (rw reading refl))

pub first_read : (id : Text) (rows : List Row) (text : Option Text) → Has id rows text → first_of id rows ≡ text
first_read id rows None has = ap (λ o. Rattle.std.specs.Prelude.option_and_then (λ (r : Row). Rattle.std.specs.Prelude.slice_get r.values 0) o) (none_found (λ r. bytes_eq r.id id) rows has)
first_read id rows (Some text) (has, row, is, values, reading) = rw is (rw values refl)
