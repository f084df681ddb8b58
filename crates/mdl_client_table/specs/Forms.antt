-- The forms in which a client prints a table, where in a text a table begins, and in which form. How a form is told is this project's own choice.
-- Passed over are the lines above the first one that begins a table: those of the client, and lines without a separator of any form.
use Rattle.std.specs.Prelude.{◌≡◌, ◌||◌, ◌&&◌, ◌==◌, ℕ, suc, Bool, false, not, Result, Ok, Err, ⊤, List, [], ◌∷◌, Option, None, Some, drop, take, slice_get, if◌then◌else◌, codes}
use Rattle.std.specs.Bool.{then_some}
use Rattle.std.specs.Char.{is_ascii_alphabetic}
use Rattle.std.specs.List.{after_first}
use Rattle.std.specs.Option.{option_map_or}
use Rattle.mdl_lines.specs.Words.{lines_of, same_text}
use Rattle.mdl_client_table.specs.declared.form.Form.{Form}
use Rattle.mdl_client_table.specs.declared.form.Form.TheVariants.{Boxes, Commas, Json, Tabs, Vertical}
use Rattle.mdl_client_table.specs.declared.json_error.JsonFault.{JsonFault}
use Rattle.mdl_client_table.specs.declared.json_error.TableError.{TableError}
use Rattle.mdl_client_table.specs.declared.json_error.TableError.TheVariants as refusal
use Rattle.mdl_client_table.specs.Boxes.{trimmed}
use Rattle.mdl_client_table.specs.Cells.{ReadingText, split_rows, with_raw_line}
use Rattle.mdl_client_table.specs.Commas.{first_mark}
use Rattle.mdl_client_table.specs.Json.{JsonText, no_json, with_json_line}
use Rattle.mdl_client_table.specs.Objects.{objects_end}
use Rattle.mdl_client_table.specs.Remarks.{begins_with, is_remark}
use Rattle.mdl_client_table.specs.Tables.{TableText, no_table}
use Rattle.mdl_client_table.specs.Tabs.{with_tab_line}
use Rattle.mdl_client_table.specs.Vertical.{begins_row, with_vertical_line}

-- whether a text begins with an array or an object of JSON, and not with a shell's prompt
abbrev pub begins_json : List ℕ → Bool
begins_json text =
    same_text (take 1 text) (codes "{")
    || (same_text (take 1 text) (codes "[") && not (option_map_or is_ascii_alphabetic (slice_get text 1) false))

-- whether a line may be of a vertical table: its first colon has a space behind it
abbrev pub may_be_field : List ℕ → Bool
may_be_field line = same_text (take 1 (after_first (λ byte. byte == 58) line)) (codes " ")

-- the form of a table whose fields are separated by tabs or commas, by which of them comes first in its header. A line of a vertical table is taken for such
-- a header if no line of stars is above it, so that the rest of a row isn't passed over
abbrev pub form_separated : List ℕ → Option Form
form_separated line = by (first_mark line) where
  by : Option ℕ → Option Form
  by (Some mark) = Some (if mark == 9 then Tabs else Commas)
  by None = then_some (may_be_field line) Tabs

-- the form of a table that begins with a line, unless none begins there
abbrev pub form_begun : List ℕ → Option Form
form_begun line =
    if is_remark line then None
    else (if begins_json (trimmed line) then Some Json
    else (if begins_row line then Some Vertical
    else (if begins_with (codes "+-") (trimmed line) || begins_with (codes "|") (trimmed line) then Some Boxes else form_separated line)))

-- a table of this form with one more line, which has this number
abbrev pub with_form_line : Form → ℕ → List ℕ → ReadingText → ReadingText
with_form_line Tabs number line reading = record reading { table = with_tab_line number line reading.table }
with_form_line Vertical number line reading = with_vertical_line number line reading
with_form_line Boxes number line reading = with_raw_line Boxes number line reading
with_form_line Commas number line reading = with_raw_line Commas number line reading
with_form_line Json number line reading = record reading { json = with_json_line number line reading.json }

-- a line above the table, or the first one of the table. Lines that begin no table are those of a table of one column, if no other one follows
abbrev pub with_line_above : Option Form → ℕ → List ℕ → ReadingText → ReadingText
with_line_above (Some form) number line reading = with_form_line form number line (record reading { form = Some form; table = no_table })
with_line_above None number line reading = if is_remark line then reading else record reading { table = with_tab_line number line reading.table }

-- a table with one more line, which has this number
abbrev pub with_line : ℕ → List ℕ → ReadingText → ReadingText
with_line number line reading = by reading.form where
  by : Option Form → ReadingText
  by (Some form) = with_form_line form number line reading
  by None = with_line_above (form_begun line) number line reading

-- a table with more lines, the first of which has this number
abbrev pub with_lines : ℕ → List (List ℕ) → ReadingText → ReadingText
with_lines number [] reading = reading
with_lines number (line ∷ lines) reading = with_lines (suc number) lines (with_line number line reading)

-- nothing was read yet
abbrev pub nothing_read : ReadingText
nothing_read = record { form = None; table = no_table; is_open = false; json = no_json }

-- the table in JSON that was read, or its first fault
abbrev pub json_table : JsonText → Result TableText JsonFault
json_table json = objects_end json.objects.expected json.begin json.objects.table

-- the table of what was read
abbrev pub table_from : ReadingText → Result TableText JsonFault
table_from reading = by reading.form where
  by : Option Form → Result TableText JsonFault
  by (Some Boxes) = Ok (split_rows Boxes reading.table.rows)
  by (Some Commas) = Ok (split_rows Commas reading.table.rows)
  by (Some Json) = json_table reading.json
  by form = Ok reading.table

-- the table in lines. Only JSON can have a fault
abbrev pub table_in : List (List ℕ) → Result TableText JsonFault
table_in lines = table_from (with_lines 1 lines nothing_read)

-- a text without the mark that some programs write before text in UTF-8
abbrev pub without_mark : List ℕ → List ℕ
without_mark text = if same_text (take 3 text) (239 ∷ 187 ∷ 191 ∷ []) then drop 3 text else text

-- the table of a text
abbrev pub table_of : List ℕ → Result TableText JsonFault
table_of text = table_in (lines_of (without_mark text))

-- the errors with which reading a text that is this table may fail: its fault, or out of memory
abbrev pub IsTableFault : Result TableText JsonFault → TableError → Type 0
IsTableFault read (refusal.Json fault) = read ≡ Err fault
IsTableFault read refusal.OutOfMemory = ⊤
