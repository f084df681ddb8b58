-- How definitions are changed, after MySQL 5.7: the Reference Manual, "CREATE TABLE Statement" and "ALTER TABLE Statement".
use Rattle.std.specs.Prelude.{ℕ, ◌==◌, not, nat_le, List, [], ◌∷◌, ◌++◌, length, if◌then◌else◌, Option, Some, None}
use Rattle.mdl_defs.specs.declared.change.Change.{Change}
use Rattle.mdl_defs.specs.declared.change.Change.TheVariants.{Create, Drop, AddColumn, DropColumn, Put}
use Rattle.mdl_defs.specs.declared.def_error.DefError.{DefError}
use Rattle.mdl_defs.specs.declared.def_error.DefError.TheVariants.{Exists, Missing, DuplicateColumn, NoColumn, LastColumn, ManyColumns, WrongKind}
use Rattle.mdl_defs.specs.declared.definition.Definition.{Definition}
use Rattle.mdl_defs.specs.declared.definition.Definition.TheVariants.{Schema, Table}
use Rattle.mdl_defs.specs.Columns.{has_column, without_column}
use Rattle.mdl_defs.specs.Definitions.{definition_fault, most_columns}

-- why a column can't be added to a table: the table has it already, or has `most_columns` columns
abbrev pub gain_fault : List ℕ → List (List ℕ) → Option DefError
gain_fault column columns =
    if has_column column columns then Some DuplicateColumn else (if nat_le most_columns (length columns) then Some ManyColumns else None)

-- why a column can't be dropped from a table: the table doesn't have it, or has no other
abbrev pub loss_fault : List ℕ → List (List ℕ) → Option DefError
loss_fault column columns =
    if not (has_column column columns) then Some NoColumn else (if length columns == 1 then Some LastColumn else None)

-- why a change of a definition is refused
abbrev pub change_fault : Option Definition → Change → Option DefError
change_fault None (Create definition) = definition_fault definition
change_fault (Some _) (Create definition) = Some Exists
change_fault None Drop = Some Missing
change_fault (Some _) Drop = None
change_fault None (AddColumn column) = Some Missing
change_fault (Some Schema) (AddColumn column) = Some WrongKind
change_fault (Some (Table columns)) (AddColumn column) = gain_fault column columns
change_fault None (DropColumn column) = Some Missing
change_fault (Some Schema) (DropColumn column) = Some WrongKind
change_fault (Some (Table columns)) (DropColumn column) = loss_fault column columns
change_fault standing (Put definition) = definition_fault definition

-- the definition after a change, if there is one then
abbrev pub changed : Option Definition → Change → Option Definition
changed standing (Create definition) = Some definition
changed standing Drop = None
changed (Some (Table columns)) (AddColumn column) = Some (Table (columns ++ column ∷ []))
changed (Some (Table columns)) (DropColumn column) = Some (Table (without_column column columns))
changed standing (AddColumn column) = standing
changed standing (DropColumn column) = standing
changed standing (Put definition) = Some definition
