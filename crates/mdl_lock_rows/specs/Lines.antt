-- What a row of the table says. Which row is refused, and for what, is this project's own choice.
use Rattle.std.specs.Prelude.{ℕ, ◌+◌, ◌^◌, not, ◌&&◌, ◌==◌, nat_lt, List, length, Option, Some, None, Result, Ok, Err, ok_or, if◌then◌else◌}
use Rattle.std.specs.List.{list_all}
use Rattle.mdl_key.specs.declared.mode.Duration.{Duration}
use Rattle.mdl_lines.specs.Words.{decimal_value, is_digit}
use Rattle.mdl_client_table.specs.Words.{RowText}
use Rattle.mdl_lock_rows.specs.declared.columns.Columns.{Columns}
use Rattle.mdl_lock_rows.specs.declared.lines.Facts.{Facts}
use Rattle.mdl_lock_rows.specs.declared.row.Line.{Line}
use Rattle.mdl_lock_rows.specs.declared.row.Line.TheVariants.{Kept, LeftOut}
use Rattle.mdl_lock_rows.specs.declared.row.Request.{Request}
use Rattle.mdl_lock_rows.specs.declared.row_error.RowError.{RowError}
use Rattle.mdl_lock_rows.specs.declared.row_error.RowError.TheVariants.{BadConnection, BadThread, ExtraField, MissingField}
use Rattle.mdl_lock_rows.specs.Classes.{class_of}
use Rattle.mdl_lock_rows.specs.Columns.{and_then, field_at, field_in}
use Rattle.mdl_lock_rows.specs.Owners.{OwnerView}
use Rattle.mdl_lock_rows.specs.ServerNames.{duration_of, is_waiting, request_of, status_of}

-- the number that digits write, if it is below 2^64 and there is a digit
abbrev pub number_in : List ℕ → Option ℕ
number_in digits = if not (length digits == 0) && nat_lt (decimal_value digits) (2 ^ 64) then Some (decimal_value digits) else None

-- the number that a field has in decimal digits
abbrev pub number_of_field : List ℕ → Option ℕ
number_of_field field = if list_all is_digit field then number_in field else None

-- the thread of a row
abbrev pub thread_of : List ℕ → Result ℕ RowError
thread_of field = ok_or (number_of_field field) BadThread

-- the connection of a row, if there is one
abbrev pub connection_of : List ℕ → Result (Option ℕ) RowError
connection_of field = if length field == 0 then Ok None else and_then (ok_or (number_of_field field) BadConnection) (λ number. Ok (Some number))

-- the duration of a row, if there is such a column
abbrev pub duration_in : Columns → RowText → Result (Option Duration) RowError
duration_in columns row = by columns.lock_duration where
  by : Option ℕ → Result (Option Duration) RowError
  by None = Ok None
  by (Some place) = and_then (duration_of (field_at row place)) (λ duration. Ok (Some duration))

-- what a row says in fields that can be wrong
abbrev pub facts_of : Columns → RowText → Result Facts RowError
facts_of columns row =
    and_then (status_of (field_at row columns.lock_status)) (λ status.
    and_then (duration_in columns row) (λ duration.
    and_then (thread_of (field_at row columns.owner_thread_id)) (λ thread.
    and_then (connection_of (field_in row columns.processlist_id)) (λ connection.
    Ok (record { status = status; duration = duration; thread = thread; connection = connection })))))

-- what a row says of its thread
abbrev pub owner_of : Columns → RowText → Facts → OwnerView
owner_of columns row facts = record {
  thread = facts.thread;
  connection = facts.connection;
  user = field_in row columns.user;
  host = field_in row columns.host;
  command = field_in row columns.command;
  time = field_in row columns.time;
  info = field_in row columns.info;
  transaction_started = field_in row columns.trx_started;
}

-- a row with this object type and mode, and these facts
abbrev pub row_with : Columns → RowText → Request → Facts → Line
row_with columns row request facts = Kept (record {
  line = row.line;
  key = record {
    object_type = request.object_type;
    schema = field_at row columns.object_schema;
    name = field_at row columns.object_name;
  };
  mode = request.mode;
  duration = facts.duration;
  status = facts.status;
  owner = owner_of columns row facts;
})

-- a row with this object type and mode
abbrev pub row_of : Columns → RowText → Request → Result Line RowError
row_of columns row request = and_then (facts_of columns row) (λ facts. Ok (row_with columns row request facts))

-- a row that is left out: its class, and whether it waits
abbrev pub left_out : Columns → RowText → Result Line RowError
left_out columns row =
    and_then (status_of (field_at row columns.lock_status)) (λ status.
    Ok (LeftOut (class_of (field_at row columns.object_type) (field_at row columns.lock_type)) (is_waiting status)))

-- a row, or a row that is left out if it has no known object type and mode
abbrev pub row_or_left_out : Columns → RowText → Option Request → Result Line RowError
row_or_left_out columns row (Some request) = row_of columns row request
row_or_left_out columns row None = left_out columns row

-- the first field that a row lacks, or the first beyond those of the header, counted from 1
abbrev pub count_fault : Columns → RowText → Option RowError
count_fault columns row =
    if nat_lt (length row.fields) columns.count then Some (MissingField (length row.fields + 1))
    else (if nat_lt columns.count (length row.fields) then Some (ExtraField (columns.count + 1)) else None)

-- what a row says, unless its fields are too few or too many
abbrev pub unless_fault : Option RowError → Result Line RowError → Result Line RowError
unless_fault (Some error) said = Err error
unless_fault None said = said

-- what a row says
abbrev pub row_says : Columns → RowText → Result Line RowError
row_says columns row =
    unless_fault (count_fault columns row)
    (row_or_left_out columns row (request_of (field_at row columns.object_type) (field_at row columns.lock_type)))
