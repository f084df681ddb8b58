-- The rows that are left, added to the table so far, give the table.
use Rattle.std.proofs.Common.{◌≡◌, drop}
use Rattle.std.specs.Prelude.{fold}
use Rattle.mdl_client_table.specs.Cells.{split_rows, with_split_row}
use Rattle.mdl_client_table.proofs.lines.split_rows.Given as goal

abbrev pub invariant-loop-row : goal.invariant-loop-row
invariant-loop-row l = fold (with_split_row l.form) l.table (drop l.row-index l.rows) ≡ split_rows l.form l.rows
