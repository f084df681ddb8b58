-- The threads so far, and then those of the rows that are left.
use Rattle.std.proofs.Common.{◌≡◌, drop, filter, map, nat_eq}
use Rattle.std.specs.Prelude.{fold}
use Rattle.mdl_lock_rows.specs.Numbering.{thread_of_row, with_new}
use Rattle.mdl_lock_rows.specs.Tables.{changers_of, shows_change}
use Rattle.mdl_lock_rows.proofs.numbering.changers_of.Given as goal

abbrev pub invariant-loop-row : goal.invariant-loop-row
invariant-loop-row l = fold (with_new nat_eq) l.changers.keys (map thread_of_row (filter shows_change (drop l.row-index l.rows))) ≡ changers_of l.rows
