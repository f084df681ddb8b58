-- The locks have the tickets of the rows so far.
use Rattle.std.proofs.Common.{◌≡◌, take}
use Rattle.mdl_lock_rows.specs.Tables.{locks_among}
use Rattle.mdl_lock_rows.proofs.locks.locks_among.Given as goal

abbrev pub invariant-loop-row : goal.invariant-loop-row
invariant-loop-row l = l.locks.items ≡ locks_among l.threads.all.keys l.threads.changers.keys (take l.row-index l.rows) l.keys.keys
