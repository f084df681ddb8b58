-- The threads so far, and then those of the rows that are left.
use Rattle.std.proofs.Common.{◌≡◌, drop, map, nat_eq}
use Rattle.std.specs.Prelude.{fold}
use Rattle.mdl_lock_rows.specs.Numbering.{thread_of_row, threads_of, with_new}
use Rattle.mdl_lock_rows.proofs.numbering.threads_of.Given as goal

abbrev pub invariant-loop-row : goal.invariant-loop-row
invariant-loop-row l = fold (with_new nat_eq) l.threads.keys (map thread_of_row (drop l.row-index l.rows)) ≡ threads_of l.rows
