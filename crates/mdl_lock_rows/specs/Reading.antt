-- What the rows of a text say.
use Rattle.std.specs.Prelude.{◌≡◌, ℕ, ◌==◌, List, [], ◌∷◌, length, Option, Some, None, Result, Ok, Err, ⊤, filter_map, if◌then◌else◌}
use Rattle.mdl_client_table.specs.declared.json_error.JsonFault.{JsonFault}
use Rattle.mdl_client_table.specs.declared.json_error.TableError.{TableError}
use Rattle.mdl_client_table.specs.declared.json_error.TableError.TheVariants as fault
use Rattle.mdl_client_table.specs.Words.{RowText, TableText, table_of}
use Rattle.mdl_lock_rows.specs.declared.column.Column.{Column}
use Rattle.mdl_lock_rows.specs.declared.columns.Columns.{Columns}
use Rattle.mdl_lock_rows.specs.declared.no_row.NoRow.{NoRow}
use Rattle.mdl_lock_rows.specs.declared.no_row.NoRow.TheVariants as none
use Rattle.mdl_lock_rows.specs.declared.other_table.OtherTable.{OtherTable}
use Rattle.mdl_lock_rows.specs.declared.row.Line.{Line}
use Rattle.mdl_lock_rows.specs.declared.row.Line.TheVariants.{Kept, LeftOut}
use Rattle.mdl_lock_rows.specs.declared.row.OtherRow.{OtherRow}
use Rattle.mdl_lock_rows.specs.declared.row.Row.{Row}
use Rattle.mdl_lock_rows.specs.declared.row_error.LockRowsError.{LockRowsError}
use Rattle.mdl_lock_rows.specs.declared.row_error.LockRowsError.TheVariants.{Json, NoColumn, NoRows, NotLocks, OutOfMemory, Refused}
use Rattle.mdl_lock_rows.specs.declared.row_error.RowError.{RowError}
use Rattle.mdl_lock_rows.specs.Columns.{columns_of, other_table}
use Rattle.mdl_lock_rows.specs.Lines.{row_says}

-- a row, if it is kept
abbrev pub row_in : Line → Option Row
row_in (Kept row) = Some row
row_in (LeftOut class is_waiting) = None

-- a row, if it is left out
abbrev pub other_in : Line → Option OtherRow
other_in (Kept row) = None
other_in (LeftOut class is_waiting) = Some (record { class = class; is_waiting = is_waiting })

-- the rows that are kept
abbrev pub rows_in : List Line → List Row
rows_in lines = filter_map row_in lines

-- the rows that are left out
abbrev pub others_in : List Line → List OtherRow
others_in lines = filter_map other_in lines

-- what a row says, before what those after it say. The first refused row decides
abbrev pub said_before : ℕ → Result Line RowError → Result (List Line) LockRowsError → Result (List Line) LockRowsError
said_before number (Err error) rest = Err (Refused number error)
said_before number (Ok line) (Ok more) = Ok (line ∷ more)
said_before number (Ok line) (Err refusal) = Err refusal

-- what rows say, or why the first refused one is
abbrev pub rows_say : Columns → List RowText → Result (List Line) LockRowsError
rows_say columns [] = Ok []
rows_say columns (row ∷ rows) = said_before row.line (row_says columns row) (rows_say columns rows)

-- what rows say, if there are any
abbrev pub some_say : Columns → List RowText → Result (List Line) LockRowsError
some_say columns rows = if length rows == 0 then Err NoRows else rows_say columns rows

-- why a table of these columns is refused, which lacks a needed one
abbrev pub lacking : List (List ℕ) → Column → LockRowsError
lacking names column = by (other_table names) where
  by : Option OtherTable → LockRowsError
  by None = NoColumn column
  by (Some table) = NotLocks table

-- what rows below a header with these names say
abbrev pub said_below : List (List ℕ) → Result Columns Column → List RowText → Result (List Line) LockRowsError
said_below names (Err column) rows = Err (lacking names column)
said_below names (Ok columns) rows = some_say columns rows

-- what the rows of a table say. A table without a header has no rows
abbrev pub table_says : TableText → Result (List Line) LockRowsError
table_says table = if length table.names == 0 then Err NoRows else said_below table.names (columns_of table.names) table.rows

-- the refusal of a text that isn't read as a table
abbrev pub refusal_of : TableError → LockRowsError
refusal_of (fault.Json at) = Json at
refusal_of fault.OutOfMemory = OutOfMemory

-- what the rows of a table say that was read, or why it wasn't
abbrev pub said_by : Result TableText JsonFault → Result (List Line) LockRowsError
said_by (Ok table) = table_says table
said_by (Err at) = Err (refusal_of (fault.Json at))

-- what the rows of a text say, or why it is refused
abbrev pub lines_read : List ℕ → Result (List Line) LockRowsError
lines_read text = said_by (table_of text)

-- what is made of the rows of a text, unless it is refused
abbrev pub made_of : {A : Type 0} → (List Line → A) → Result (List Line) LockRowsError → Result A LockRowsError
made_of make (Ok lines) = Ok (make lines)
made_of make (Err refusal) = Err refusal

-- the result of reading a row that says this
abbrev pub ReadsAs : {A : Type 0} → Result A RowError → Result A NoRow → Type 0
ReadsAs said (Ok value) = said ≡ Ok value
ReadsAs said (Err (none.Refused error)) = said ≡ Err error
ReadsAs said (Err none.Memory) = ⊤

-- the errors with which reading a text may fail: that for which it is refused, or out of memory
abbrev pub IsRefusalOf : {A : Type 0} → Result A LockRowsError → LockRowsError → Type 0
IsRefusalOf said OutOfMemory = ⊤
IsRefusalOf said NoRows = said ≡ Err NoRows
IsRefusalOf said (NoColumn column) = said ≡ Err (NoColumn column)
IsRefusalOf said (NotLocks table) = said ≡ Err (NotLocks table)
IsRefusalOf said (Json at) = said ≡ Err (Json at)
IsRefusalOf said (Refused number error) = said ≡ Err (Refused number error)
