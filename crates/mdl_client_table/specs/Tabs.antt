-- A table with tabs between its fields, as `mysql -B` prints it, after MySQL 5.7: `print_tab_data` of client/mysql.cc. Empty lines don't count.
use Rattle.std.specs.Prelude.{ℕ, ◌==◌, List, length, map, if◌then◌else◌}
use Rattle.std.specs.List.{slice_split}
use Rattle.mdl_client_table.specs.Escapes.{name_of}
use Rattle.mdl_client_table.specs.Tables.{TableText, with_fields}

-- the fields of a line, separated by tabs
abbrev pub tab_fields : List ℕ → List (List ℕ)
tab_fields line = map name_of (slice_split (λ byte. byte == 9) line)

-- a table with one more line
abbrev pub with_tab_line : ℕ → List ℕ → TableText → TableText
with_tab_line number line table = if length line == 0 then table else with_fields number (tab_fields line) table
