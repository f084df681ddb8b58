-- The columns that are read of `performance_schema.metadata_locks` and of the tables that it is joined with, after MySQL 5.7:
-- storage/perfschema/table_md_locks.cc, table_threads.cc, and `trx_started` of information_schema.INNODB_TRX. That the first six are needed, and
-- that the others have a second name, is this project's own choice.
use Rattle.std.specs.Prelude.{ℕ, Bool, ◌||◌, ◌&&◌, List, length, codes, if◌then◌else◌, Option, None, Some, Result, Ok, Err, position, ok_or, unwrap_or, slice_get, []}
use Rattle.std.specs.List.{list_any}
use Rattle.std.specs.Option.{option_map_or}
use Rattle.std.specs.Str.{str_eq_ignore_ascii_case}
use Rattle.mdl_client_table.specs.Words.{RowText, trimmed}
use Rattle.mdl_lock_rows.specs.declared.column.Column.{Column}
use Rattle.mdl_lock_rows.specs.declared.column.Column.TheVariants.{ObjectType, ObjectSchema, ObjectName, LockType, LockDuration, LockStatus, OwnerThreadId, ProcesslistId, User, Host, Command, Time, Info, TrxStarted}
use Rattle.mdl_lock_rows.specs.declared.columns.Columns.{Columns}
use Rattle.mdl_lock_rows.specs.declared.other_table.OtherTable.{OtherTable}
use Rattle.mdl_lock_rows.specs.declared.other_table.OtherTable.TheVariants.{InnodbTrx, MetadataLockInfo, Processlist, SchemaTableLockWaits}

-- a column's name
abbrev pub column_name : Column → List ℕ
column_name ObjectType = codes "OBJECT_TYPE"
column_name ObjectSchema = codes "OBJECT_SCHEMA"
column_name ObjectName = codes "OBJECT_NAME"
column_name LockType = codes "LOCK_TYPE"
column_name LockDuration = codes "LOCK_DURATION"
column_name LockStatus = codes "LOCK_STATUS"
column_name OwnerThreadId = codes "OWNER_THREAD_ID"
column_name ProcesslistId = codes "PROCESSLIST_ID"
column_name User = codes "USER"
column_name Host = codes "HOST"
column_name Command = codes "COMMAND"
column_name Time = codes "TIME"
column_name Info = codes "INFO"
column_name TrxStarted = codes "TRX_STARTED"

-- the name of a column in the table that it is from, where that is another one
abbrev pub other_name : Column → List ℕ
other_name User = codes "PROCESSLIST_USER"
other_name Host = codes "PROCESSLIST_HOST"
other_name Command = codes "PROCESSLIST_COMMAND"
other_name Time = codes "PROCESSLIST_TIME"
other_name Info = codes "PROCESSLIST_INFO"
other_name column = column_name column

-- whether a name of the header is that of a column. Neither the case of letters counts nor blanks at the ends
abbrev pub is_name_of : Column → List ℕ → Bool
is_name_of column name = str_eq_ignore_ascii_case (trimmed name) (column_name column) || str_eq_ignore_ascii_case (trimmed name) (other_name column)

-- the index of a column: that of the first name that is the column's
abbrev pub place_of : List (List ℕ) → Column → Option ℕ
place_of names column = position (is_name_of column) names

-- the index of a column that is needed
abbrev pub needed : List (List ℕ) → Column → Result ℕ Column
needed names column = ok_or (place_of names column) column

-- whether a name of the header is this one. Neither the case of letters counts nor blanks at the ends
abbrev pub is_called : List ℕ → List ℕ → Bool
is_called name other = str_eq_ignore_ascii_case (trimmed other) name

-- whether a header has a name
abbrev pub has_name : List (List ℕ) → List ℕ → Bool
has_name names name = list_any (is_called name) names

-- whether a header has the columns of a process list from which its ID can be told from the number of a row
abbrev pub has_process : List (List ℕ) → Bool
has_process names = has_name names (codes "COMMAND") && has_name names (codes "USER")

-- the index of the connection: that of PROCESSLIST_ID, or else that of the ID of a process list
abbrev pub connection_place : List (List ℕ) → Option ℕ
connection_place names = by (place_of names ProcesslistId) where
  by : Option ℕ → Option ℕ
  by (Some place) = Some place
  by None = if has_process names then position (is_called (codes "ID")) names else None

-- the table with these columns that may be taken for that of the metadata locks: by what no other table of the server has, or few have together
abbrev pub other_table : List (List ℕ) → Option OtherTable
other_table names =
    if has_name names (codes "waiting_thread_id") then Some SchemaTableLockWaits
    else (if has_name names (codes "trx_state") then Some InnodbTrx
    else (if has_name names (codes "LOCK_MODE") && has_name names (codes "TABLE_SCHEMA") then Some MetadataLockInfo
    else (if has_name names (codes "Id") && has_name names (codes "Command") then Some Processlist else None)))

-- the result of a second step after a first one that may be refused
abbrev pub and_then : {A B E : Type 0} → Result A E → (A → Result B E) → Result B E
and_then (Ok value) next = next value
and_then (Err error) next = Err error

-- the indices of the columns, or the first needed one that is missing
abbrev pub columns_of : List (List ℕ) → Result Columns Column
columns_of names =
    and_then (needed names ObjectType) (λ object_type.
    and_then (needed names ObjectSchema) (λ object_schema.
    and_then (needed names ObjectName) (λ object_name.
    and_then (needed names LockType) (λ lock_type.
    and_then (needed names LockStatus) (λ lock_status.
    and_then (needed names OwnerThreadId) (λ owner_thread_id.
    Ok (record {
      count = length names;
      object_type = object_type;
      object_schema = object_schema;
      object_name = object_name;
      lock_type = lock_type;
      lock_status = lock_status;
      owner_thread_id = owner_thread_id;
      lock_duration = place_of names LockDuration;
      processlist_id = connection_place names;
      user = place_of names User;
      host = place_of names Host;
      command = place_of names Command;
      time = place_of names Time;
      info = place_of names Info;
      trx_started = place_of names TrxStarted;
    })))))))

-- the field of a row at an index
abbrev pub field_at : RowText → ℕ → List ℕ
field_at row place = unwrap_or (slice_get row.fields place) []

-- the field of a column that may be missing: it is empty then
abbrev pub field_in : RowText → Option ℕ → List ℕ
field_in row place = option_map_or (field_at row) place []
