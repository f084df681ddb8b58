-- Definitions of schemas and tables, after MySQL 5.7: the Reference Manual, "CREATE TABLE Statement". The limits are this
-- project's own.
use Rattle.std.specs.Prelude.{ℕ, ◌≤◌, ◌==◌, nat_lt, List, length, if◌then◌else◌, Option, Some, None}
use Rattle.std.specs.List.{IsDistinct}
use Rattle.mdl_defs.specs.declared.def_error.DefError.{DefError}
use Rattle.mdl_defs.specs.declared.def_error.DefError.TheVariants.{DuplicateColumn, ManyColumns, WrongKind}
use Rattle.mdl_defs.specs.declared.definition.Definition.{Definition}
use Rattle.mdl_defs.specs.declared.definition.Definition.TheVariants.{Schema, Table}
use Rattle.mdl_defs.specs.Columns.{same_column, names_twice}

-- the most columns that a table can have
abbrev pub most_columns : ℕ
most_columns = 64

-- why a table can't have these columns: two have the same name, there are too many, or there are none
abbrev pub columns_fault : List (List ℕ) → Option DefError
columns_fault columns =
    if names_twice columns then Some DuplicateColumn
    else (if nat_lt most_columns (length columns) then Some ManyColumns else (if length columns == 0 then Some WrongKind else None))

-- why a definition isn't valid
abbrev pub definition_fault : Definition → Option DefError
definition_fault Schema = None
definition_fault (Table columns) = columns_fault columns

-- well formed: no definition, a schema, or a table of 1 to `most_columns` columns, no two of one name
abbrev pub IsWellFormed : Option Definition → Type 0
IsWellFormed None = Unit {0}
IsWellFormed (Some Schema) = Unit {0}
IsWellFormed (Some (Table columns)) = (1 ≤ length columns) × (length columns ≤ most_columns) × IsDistinct same_column columns
