-- A table with a line for each field, as `mysql -E` and `\G` print it, after MySQL 5.7: `print_table_data_vertically` of client/mysql.cc. A row
-- begins with a line of stars. In each other line there is a column's name, with as many spaces before it as make all names equally wide, a colon,
-- a space, and the value. Values aren't escaped: a line that can't be that of the next column continues the value before it. Below the rows is their
-- number. Lines behind it aren't of the table, up to the next line of stars. So a line of a value that looks like either of these two is taken for it.
use Rattle.std.specs.Prelude.{ℕ, ◌-◌, Bool, true, false, not, ◌&&◌, ◌==◌, List, [], ◌∷◌, ◌++◌, drop, take, length, codes, slice_get, if◌then◌else◌}
use Rattle.std.specs.List.{after_first, before_first, list_any}
use Rattle.std.specs.Option.{option_map_or}
use Rattle.mdl_lines.specs.Words.{same_text}
use Rattle.mdl_client_table.specs.Boxes.{trimmed}
use Rattle.mdl_client_table.specs.Cells.{ReadingText}
use Rattle.mdl_client_table.specs.Remarks.{begins_with, is_footer}
use Rattle.mdl_client_table.specs.Tables.{RowText, TableText, changed_last, continued_row, value_of, with_row}

-- whether a line begins a row: stars are at both of its ends, but for blanks
abbrev pub begins_row : List ℕ → Bool
begins_row line = begins_with (codes "***") (trimmed line) && same_text (drop (length (trimmed line) - 3) (trimmed line)) (codes "***")

-- whether a line may have a field: it has a colon
abbrev pub has_colon : List ℕ → Bool
has_colon line = list_any (λ byte. byte == 58) line

-- the column's name in a line, with the spaces before it
abbrev pub label_of : List ℕ → List ℕ
label_of line = before_first (λ byte. byte == 58) line

-- a text without its first byte, if that is a space
abbrev pub without_space : List ℕ → List ℕ
without_space text = if same_text (take 1 text) (codes " ") then drop 1 text else text

-- what is printed for the value in a line
abbrev pub value_text : List ℕ → List ℕ
value_text line = without_space (after_first (λ byte. byte == 58) line)

-- the value in a line
abbrev pub value_in : List ℕ → List ℕ
value_in line = value_of (value_text line)

-- whether a label is as wide as the first one
abbrev pub is_as_wide : List (List ℕ) → List ℕ → Bool
is_as_wide [] label = true
is_as_wide (name ∷ names) label = length label == length name

-- whether a label is the name at an index
abbrev pub is_name_at : List (List ℕ) → ℕ → List ℕ → Bool
is_name_at names place label = option_map_or (λ name. same_text name label) (slice_get names place) false

-- whether a line has the next field of the row of this number, counted from 1, which has so many fields so far. The first row names the columns
abbrev pub is_field_line : ℕ → List (List ℕ) → ℕ → List ℕ → Bool
is_field_line number names count line =
    has_colon line && (if number == 1 then is_as_wide names (label_of line) else is_name_at names count (label_of line))

-- a row with one more line: one more field, or its last field continued
abbrev pub with_value : Bool → List ℕ → RowText → RowText
with_value true line row = record row { fields = row.fields ++ value_in line ∷ [] }
with_value false line row = continued_row line row

-- the number of fields of the last row
abbrev pub last_count : List RowText → ℕ
last_count [] = 0
last_count (row ∷ []) = length row.fields
last_count (row ∷ next ∷ rows) = last_count (next ∷ rows)

-- whether a line has the next field of a table's last row
abbrev pub has_next_field : List ℕ → TableText → Bool
has_next_field line table = is_field_line (length table.rows) table.names (last_count table.rows) line

-- the names of a table with one more line: fields of the first row name the columns
abbrev pub names_with : List ℕ → TableText → List (List ℕ)
names_with line table = if (length table.rows == 1) && has_next_field line table then table.names ++ label_of line ∷ [] else table.names

-- a table with one more line of its last row
abbrev pub with_value_line : List ℕ → TableText → TableText
with_value_line line table = record { names = names_with line table; rows = changed_last (with_value (has_next_field line table) line) table.rows }

-- a table with one more line. Empty lines don't count
abbrev pub with_vertical_line : ℕ → List ℕ → ReadingText → ReadingText
with_vertical_line number line reading =
    if begins_row line then record reading { table = with_row number [] reading.table; is_open = true }
    else (if is_footer (trimmed line) then record reading { is_open = false }
    else (if reading.is_open && not (length line == 0) then record reading { table = with_value_line line reading.table } else reading))
