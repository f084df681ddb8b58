-- Rows that may have several lines, and their cells: of boxes, and of fields between commas. The bytes that separate lines and cells may also be
-- within a value. So lines are gathered to rows first, and then the parts of a row to cells.
use Rattle.std.specs.Prelude.{ℕ, Bool, true, false, not, ◌||◌, ◌==◌, List, [], ◌∷◌, ◌++◌, length, map, fold, Option, if◌then◌else◌}
use Rattle.std.specs.List.{slice_split}
use Rattle.mdl_client_table.specs.declared.form.Form.{Form}
use Rattle.mdl_client_table.specs.declared.form.Form.TheVariants.{Boxes}
use Rattle.mdl_client_table.specs.Boxes.{begins_box_row, begins_cell, between_bars, box_value, ends_box_row, ends_cell}
use Rattle.mdl_client_table.specs.Commas.{comma_value, is_quote_open}
use Rattle.mdl_client_table.specs.Json.{JsonText}
use Rattle.mdl_client_table.specs.Tables.{RowText, TableText, changed_last, continued_table, first_field, no_table, with_fields, with_row}

-- a table while it is read: its form, if a line began one, whether its last row may go on in the next line, and what was read of JSON
pub record ReadingText : Type 0 where
  pub form : Option Form
  pub table : TableText
  pub is_open : Bool
  pub json : JsonText

-- ---- lines to rows, each of which has its text as its one field

-- whether a line begins a row
abbrev pub begins_row_of : Form → List ℕ → Bool
begins_row_of Boxes line = begins_box_row line
begins_row_of _ line = not (length line == 0)

-- whether a row goes on behind a line, given whether the row went on before the line
abbrev pub goes_on : Form → Bool → List ℕ → Bool
goes_on Boxes was line = not (ends_box_row line)
goes_on _ was line = is_quote_open was line

-- a table with one more line. Lines that neither continue a row nor begin one aren't of the table
abbrev pub with_raw_line : Form → ℕ → List ℕ → ReadingText → ReadingText
with_raw_line form number line reading =
    if reading.is_open then record reading { table = continued_table line reading.table; is_open = goes_on form true line }
    else (if begins_row_of form line then record reading { table = with_row number (line ∷ []) reading.table; is_open = goes_on form false line } else reading)

-- ---- parts to cells

-- cells while they are gathered: whether the next part is of the last one
pub record CellsText : Type 0 where
  pub cells : List (List ℕ)
  pub is_open : Bool

-- no cells
abbrev pub no_cells : CellsText
no_cells = record { cells = []; is_open = false }

-- the byte between two parts
abbrev pub separator_of : Form → ℕ
separator_of Boxes = 124
separator_of _ = 44

-- whether a part may be the first of a cell
abbrev pub may_begin : Form → List ℕ → Bool
may_begin Boxes part = begins_cell part
may_begin _ part = true

-- whether a cell goes on behind a part, given whether it went on before the part
abbrev pub cell_goes_on : Form → Bool → List ℕ → Bool
cell_goes_on Boxes was part = not (ends_cell part)
cell_goes_on _ was part = is_quote_open was part

-- cells with one more part: a new cell, or more of the last one
abbrev pub with_part : Form → CellsText → List ℕ → CellsText
with_part form all part = record {
  cells =
      if all.is_open || not (may_begin form part) then changed_last (λ cell. cell ++ separator_of form ∷ part) all.cells
      else all.cells ++ part ∷ [];
  is_open = cell_goes_on form all.is_open part;
}

-- the parts of a row
abbrev pub parts_in : Form → List ℕ → List (List ℕ)
parts_in Boxes row = between_bars row
parts_in _ row = slice_split (λ byte. byte == 44) row

-- the cells of a row
abbrev pub cells_in : Form → List ℕ → List (List ℕ)
cells_in form row = (fold (with_part form) no_cells (parts_in form row)).cells

-- the value of a cell
abbrev pub cell_value : Form → List ℕ → List ℕ
cell_value Boxes cell = box_value cell
cell_value _ cell = comma_value cell

-- the fields of a row
abbrev pub fields_in : Form → List ℕ → List (List ℕ)
fields_in form row = map (cell_value form) (cells_in form row)

-- a table with one more row, which has its text as its one field
abbrev pub with_split_row : Form → TableText → RowText → TableText
with_split_row form table row = with_fields row.line (fields_in form (first_field row)) table

-- the table of rows, each of which has its text as its one field
abbrev pub split_rows : Form → List RowText → TableText
split_rows form rows = fold (with_split_row form) no_table rows
