-- Rows in JSON: objects, in one array or one after another, as `mysqlsh --result-format` prints them with json/array, json, and ndjson. The keys of the
-- first object are the names of the columns. Which values and keys a row may have is this project's own choice.
use Rattle.std.specs.Prelude.{ℕ, Bool, true, false, not, ◌&&◌, ◌==◌, List, [], ◌∷◌, ◌++◌, length, map, Option, None, Some, position, slice_get, unwrap_or, Result, Ok, Err, if◌then◌else◌}
use Rattle.std.specs.List.{list_any}
use Rattle.std.specs.Option.{option_map_or}
use Rattle.std.specs.Str.{str_eq_ignore_ascii_case}
use Rattle.mdl_client_table.specs.declared.json_cell.Cell.{Cell}
use Rattle.mdl_client_table.specs.declared.json_cell.Cell.TheVariants.{Text, Number, Null, Boolean, Wrong}
use Rattle.mdl_client_table.specs.declared.json_error.JsonError.{JsonError}
use Rattle.mdl_client_table.specs.declared.json_error.JsonError.TheVariants.{BadCell, KeyTwice, NewKey, NotARow, NotAValue, TextEnds, Unexpected}
use Rattle.mdl_client_table.specs.declared.json_error.JsonFault.{JsonFault}
use Rattle.mdl_client_table.specs.declared.json_error.Place.{Place}
use Rattle.mdl_client_table.specs.declared.objects.Expected.{Expected}
use Rattle.mdl_client_table.specs.declared.objects.Expected.TheVariants as next
use Rattle.mdl_client_table.specs.declared.objects.Mark.{Mark}
use Rattle.mdl_client_table.specs.declared.objects.Mark.TheVariants as mark
use Rattle.mdl_client_table.specs.Tables.{TableText, no_table, row_at, with_row}

-- ---- rows

-- whether two keys are the same. The case of letters doesn't count
abbrev pub is_same_key : List ℕ → List ℕ → Bool
is_same_key key other = str_eq_ignore_ascii_case other key

-- the value under a key, of the values of these keys. It is empty if there is no such key
abbrev pub value_under : List (List ℕ) → List (List ℕ) → List ℕ → List ℕ
value_under keys values key = option_map_or (λ place. unwrap_or (slice_get values place) []) (position (is_same_key key) keys) []

-- a table with one more row, whose object has these keys and values. The keys of the first one are the names
abbrev pub with_object : ℕ → List (List ℕ) → List (List ℕ) → TableText → TableText
with_object line keys values table =
    if length table.rows == 0 then record { names = keys; rows = row_at line values ∷ [] }
    else with_row line (map (value_under keys values) table.names) table

-- ---- reading

-- rows while they are read: the table so far, what may come next, whether the rows are in an array, and of the object that is being read its line, its
-- keys and their values
pub record ObjectsText : Type 0 where
  pub table : TableText
  pub expected : Expected
  pub in_list : Bool
  pub line : ℕ
  pub keys : List (List ℕ)
  pub values : List (List ℕ)

-- nothing was read yet
abbrev pub no_objects : ObjectsText
no_objects = record { table = no_table; expected = next.Start; in_list = false; line = 1; keys = []; values = [] }

-- what may come next is known
abbrev pub with_next : Expected → ObjectsText → ObjectsText
with_next expected objects = record objects { expected = expected }

-- whether a fault was found
abbrev pub has_failed : Expected → Bool
has_failed (next.Failed fault) = true
has_failed _ = false

-- the fault at this place
abbrev pub fault_at : Place → JsonError → JsonFault
fault_at place error = record { line = place.line; column = place.column; error = error }

-- a fault. Only the first one counts
abbrev pub with_fault : Place → JsonError → ObjectsText → ObjectsText
with_fault place error objects = if has_failed objects.expected then objects else with_next (next.Failed (fault_at place error)) objects

-- whether a row has to come next, unless the rows end
abbrev pub wants_row : Expected → Bool
wants_row next.Start = true
wants_row next.FirstRow = true
wants_row next.NextRow = true
wants_row next.Rows = true
wants_row _ = false

-- what is wrong if something else comes than what may
abbrev pub missed : Expected → JsonError
missed expected = if wants_row expected then NotARow else Unexpected

-- an object begins
abbrev pub with_row_begun : Place → ObjectsText → ObjectsText
with_row_begun place objects = record objects { expected = next.FirstKey; line = place.line }

-- an object ends
abbrev pub with_row_ended : ObjectsText → ObjectsText
with_row_ended objects = record objects {
  table = with_object objects.line objects.keys objects.values objects.table;
  expected = if objects.in_list then next.AfterRow else next.Rows;
  keys = [];
  values = [];
}

-- one more mark
abbrev pub marked : Expected → Mark → Place → ObjectsText → ObjectsText
marked next.Start mark.OpenList place objects = record objects { expected = next.FirstRow; in_list = true }
marked next.Start mark.OpenRow place objects = with_row_begun place objects
marked next.FirstRow mark.OpenRow place objects = with_row_begun place objects
marked next.FirstRow mark.CloseList place objects = with_next next.End objects
marked next.NextRow mark.OpenRow place objects = with_row_begun place objects
marked next.AfterRow mark.Comma place objects = with_next next.NextRow objects
marked next.AfterRow mark.CloseList place objects = with_next next.End objects
marked next.Rows mark.OpenRow place objects = with_row_begun place objects
marked next.FirstKey mark.CloseRow place objects = with_row_ended objects
marked next.Colon mark.Colon place objects = with_next next.Value objects
marked next.AfterValue mark.Comma place objects = with_next next.NextKey objects
marked next.AfterValue mark.CloseRow place objects = with_row_ended objects
marked next.Value mark.OpenList place objects = with_fault place NotAValue objects
marked next.Value mark.OpenRow place objects = with_fault place NotAValue objects
marked expected mark place objects = with_fault place (missed expected) objects

abbrev pub with_mark : Place → Mark → ObjectsText → ObjectsText
with_mark place mark objects = marked objects.expected mark place objects

-- what is wrong with a key: the object has it already, or the first one lacks it
abbrev pub key_fault : List ℕ → ObjectsText → Option JsonError
key_fault key objects =
    if list_any (is_same_key key) objects.keys then Some KeyTwice
    else (if not (length objects.table.rows == 0) && not (list_any (is_same_key key) objects.table.names) then Some NewKey else None)

-- one more key
abbrev pub with_key_unless : Option JsonError → Place → List ℕ → ObjectsText → ObjectsText
with_key_unless (Some error) place key objects = with_fault place error objects
with_key_unless None place key objects = record objects { expected = next.Colon; keys = objects.keys ++ key ∷ [] }

abbrev pub with_key : Place → List ℕ → ObjectsText → ObjectsText
with_key place key objects = with_key_unless (key_fault key objects) place key objects

-- one more value
abbrev pub with_json_value : List ℕ → ObjectsText → ObjectsText
with_json_value value objects = record objects { expected = next.AfterValue; values = objects.values ++ value ∷ [] }

-- what is wrong if a string or a word comes where none may
abbrev pub cell_fault : Expected → Cell → JsonError
cell_fault expected Wrong = if wants_row expected then NotARow else BadCell
cell_fault expected cell = missed expected

-- one more string or word
abbrev pub with_next_cell : Expected → Cell → Place → ObjectsText → ObjectsText
with_next_cell next.FirstKey (Text key) place objects = with_key place key objects
with_next_cell next.NextKey (Text key) place objects = with_key place key objects
with_next_cell next.Value (Text value) place objects = with_json_value value objects
with_next_cell next.Value (Number value) place objects = with_json_value value objects
with_next_cell next.Value Null place objects = with_json_value [] objects
with_next_cell next.Value Boolean place objects = with_fault place NotAValue objects
with_next_cell expected cell place objects = with_fault place (cell_fault expected cell) objects

abbrev pub with_cell : Place → Cell → ObjectsText → ObjectsText
with_cell place cell objects = with_next_cell objects.expected cell place objects

-- ---- the end of the text

-- the table, or the first fault. The rows may end behind `]`, or behind an object that isn't in an array
abbrev pub objects_end : Expected → Place → TableText → Result TableText JsonFault
objects_end next.End place table = Ok table
objects_end next.Rows place table = Ok table
objects_end (next.Failed fault) place table = Err fault
objects_end expected place table = Err (fault_at place TextEnds)
