use Rattle.std.proofs.Common.{◌≡◌, List, drop}
use Rattle.mdl_lock_rows.specs.declared.row.Line.{Line}
use Rattle.mdl_lock_rows.specs.Reading.{others_in, rows_in, rows_say}
use Rattle.mdl_lock_rows.proofs.ReadingLemmas.{joined}
use Rattle.mdl_lock_rows.proofs.read_rows.read_all.Given as goal

-- what was said so far, before what is said by the rows that are left, is what all say
abbrev pub invariant-loop-row : goal.invariant-loop-row
invariant-loop-row l = record {
  so_far : List Line;
  read : rows_say l.columns l.rows ≡ joined so_far (rows_say l.columns (drop l.row-index l.rows));
  rows : rows_in so_far ≡ l.found.rows.items;
  others : others_in so_far ≡ l.found.others.items;
}
