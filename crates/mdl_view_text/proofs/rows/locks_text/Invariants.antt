-- What was put there, and the rows of the locks behind.
use Rattle.std.proofs.Common.{◌≡◌, ◌++◌, drop}
use Rattle.mdl_view_text.specs.Rows.{locks_text, rows_from}
use Rattle.mdl_view_text.proofs.rows.locks_text.Given as goal

abbrev pub invariant-loop-place : goal.invariant-loop-place
invariant-loop-place l = l.out.items ++ rows_from l.names l.place (drop l.place l.locks) ≡ locks_text l.names l.locks
