-- What stands after a change is well formed, by looking at each row of the table of changes.
use Rattle.std.proofs.Common.{◌≡◌, refl, ℕ, ◌≤◌, ◌==◌, nat_lt, nat_le, Bool, true, false, not, cond, List, [], ◌∷◌, ◌++◌, length, length-append, Option, Some, None, arith}
use Rattle.std.proofs.lemmas.Bool.{ltb-false, leb-false, eqb-false}
use Rattle.mdl_defs.specs.declared.change.Change.{Change}
use Rattle.mdl_defs.specs.declared.change.Change.TheVariants.{Create, Drop, AddColumn, DropColumn, Put}
use Rattle.mdl_defs.specs.declared.def_error.DefError.{DefError}
use Rattle.mdl_defs.specs.declared.def_error.DefError.TheVariants.{DuplicateColumn, NoColumn, LastColumn, ManyColumns, WrongKind}
use Rattle.mdl_defs.specs.declared.definition.Definition.{Definition}
use Rattle.mdl_defs.specs.declared.definition.Definition.TheVariants.{Schema, Table}
use Rattle.mdl_defs.specs.Columns.{same_column, has_column, names_twice, without_column}
use Rattle.mdl_defs.specs.Definitions.{columns_fault, definition_fault, IsWellFormed}
use Rattle.mdl_defs.specs.Changes.{gain_fault, loss_fault, change_fault, changed}
use Rattle.mdl_defs.proofs.ColumnLemmas.{IsDistinct-from_names_twice, IsDistinct-gained, IsDistinct-filter, length-filter-le, some_left}

-- where nothing is at fault, a cause isn't there
pub no_cause : (fault : Bool) (cause : DefError) (rest : Option DefError) → cond fault (Some cause) rest ≡ None → (fault ≡ false) × (rest ≡ None)
no_cause true cause rest e = absurd (cc)
no_cause false cause rest e = (refl, e)

columns_stand : (columns : List (List ℕ)) → columns_fault columns ≡ None → IsWellFormed (Some (Table columns))
columns_stand columns e =
    let once = no_cause (names_twice columns) DuplicateColumn _ e in
    let few = no_cause (nat_lt 64 (length columns)) ManyColumns _ once.1 in
    let some = no_cause (length columns == 0) WrongKind None few.1 in
    let least : 1 ≤ length columns = omega (arith, eqb-false (length columns) 0 some.0) in
    (least, ltb-false 64 (length columns) few.0, IsDistinct-from_names_twice columns once.0)

definition_stands : (definition : Definition) → definition_fault definition ≡ None → IsWellFormed (Some definition)
definition_stands Schema e = tt
definition_stands (Table columns) e = columns_stand columns e

gained_stands : (column : List ℕ) (columns : List (List ℕ)) → IsWellFormed (Some (Table columns)) → gain_fault column columns ≡ None → IsWellFormed (Some (Table (columns ++ column ∷ [])))
gained_stands column columns well e =
    let absent = no_cause (has_column column columns) DuplicateColumn _ e in
    let few = leb-false 64 (length columns) (no_cause (nat_le 64 (length columns)) ManyColumns None absent.1).0 in
    let more = length-append columns (column ∷ []) in
    (omega (arith, more), omega (arith, more, few), IsDistinct-gained column columns well.2 absent.0)

lost_stands : (column : List ℕ) (columns : List (List ℕ)) → IsWellFormed (Some (Table columns)) → loss_fault column columns ≡ None → IsWellFormed (Some (Table (without_column column columns)))
lost_stands column columns well e =
    let there = no_cause (not (has_column column columns)) NoColumn _ e in
    let two = eqb-false (length columns) 1 (no_cause (length columns == 1) LastColumn None there.1).0 in
    let fewer = length-filter-le (λ other. not (same_column other column)) columns in
    (some_left column columns well.0 two well.2, omega (arith, fewer, well.1), IsDistinct-filter same_column _ columns well.2)

pub IsWellFormed-changed : (standing : Option Definition) (change : Change) → IsWellFormed standing → change_fault standing change ≡ None → IsWellFormed (changed standing change)
IsWellFormed-changed None (Create definition) well e = definition_stands definition e
IsWellFormed-changed (Some _) (Create definition) well e = absurd (cc)
IsWellFormed-changed None Drop well e = tt
IsWellFormed-changed (Some _) Drop well e = tt
IsWellFormed-changed None (AddColumn column) well e = tt
IsWellFormed-changed (Some Schema) (AddColumn column) well e = tt
IsWellFormed-changed (Some (Table columns)) (AddColumn column) well e = gained_stands column columns well e
IsWellFormed-changed None (DropColumn column) well e = tt
IsWellFormed-changed (Some Schema) (DropColumn column) well e = tt
IsWellFormed-changed (Some (Table columns)) (DropColumn column) well e = lost_stands column columns well e
IsWellFormed-changed None (Put definition) well e = definition_stands definition e
IsWellFormed-changed (Some Schema) (Put definition) well e = definition_stands definition e
IsWellFormed-changed (Some (Table columns)) (Put definition) well e = definition_stands definition e
