-- A table in boxes, as `mysql -t` and an interactive `mysql` print it, after MySQL 5.7: `print_table_data` of client/mysql.cc. A row is between two
-- bars, and there is a bar with a space on each side between two fields. Values aren't escaped, so a row may have several lines, and spaces are
-- added to values, before or behind: blanks at the ends of a value don't count.
use Rattle.std.specs.Prelude.{ℕ, ◌-◌, ◌==◌, ◌&&◌, Bool, not, List, drop, take, length, codes}
use Rattle.std.specs.Char.{is_ascii_whitespace}
use Rattle.std.specs.List.{prefix_len, slice_split, suffix_len}
use Rattle.mdl_lines.specs.Words.{same_text}
use Rattle.mdl_client_table.specs.Tables.{value_of}

-- a text without the blanks at its end
abbrev pub trimmed_end : List ℕ → List ℕ
trimmed_end text = take (length text - suffix_len is_ascii_whitespace text) text

-- a text without the blanks at its beginning and at its end
abbrev pub trimmed : List ℕ → List ℕ
trimmed text = trimmed_end (drop (prefix_len is_ascii_whitespace text) text)

-- the value of a cell
abbrev pub box_value : List ℕ → List ℕ
box_value cell = value_of (trimmed cell)

-- the parts of a row that are between two bars
abbrev pub between_bars : List ℕ → List (List ℕ)
between_bars row = take (length (slice_split (λ byte. byte == 124) row) - 2) (drop 1 (slice_split (λ byte. byte == 124) row))

-- whether a text begins with a bar that isn't of an edge: some edges begin with `|-`
abbrev pub begins_with_bar : List ℕ → Bool
begins_with_bar text = same_text (take 1 text) (codes "|") && not (same_text (take 2 text) (codes "|-"))

-- whether a line begins a row: it begins with a bar behind blanks. The others are the edges of boxes, or aren't of the table
abbrev pub begins_box_row : List ℕ → Bool
begins_box_row line = begins_with_bar (trimmed line)

-- whether a line ends a row: before blanks it ends with a bar behind a space
abbrev pub ends_box_row : List ℕ → Bool
ends_box_row line = same_text (drop (length (trimmed line) - 2) (trimmed line)) (codes " |")

-- whether a part may be the first of a cell, and whether it may be the last
abbrev pub begins_cell : List ℕ → Bool
begins_cell part = same_text (take 1 part) (codes " ")

abbrev pub ends_cell : List ℕ → Bool
ends_cell part = same_text (drop (length part - 1) part) (codes " ")
