-- Columns, each by its name, in the order of their table.
use Rattle.std.specs.Prelude.{ℕ, Bool, false, not, ◌||◌, ◌==◌, List, [], ◌∷◌}
use Rattle.std.specs.List.{filter, list_any}
use lib.Pointwise.{pointwise}

-- whether two columns are the same: their names have the same bytes
abbrev pub same_column : List ℕ → List ℕ → Bool
same_column = pointwise ◌==◌

-- whether the list has this column
abbrev pub has_column : List ℕ → List (List ℕ) → Bool
has_column column columns = list_any (λ other. same_column other column) columns

-- whether two columns have the same name
abbrev pub names_twice : List (List ℕ) → Bool
names_twice [] = false
names_twice (column ∷ rest) = has_column column rest || names_twice rest

-- the columns without this one, in order
abbrev pub without_column : List ℕ → List (List ℕ) → List (List ℕ)
without_column column columns = filter (λ other. not (same_column other column)) columns
