-- What the rows so far say of the threads.
use Rattle.std.proofs.Common.{◌≡◌, take}
use Rattle.mdl_lock_rows.specs.Numbering.{owners_among}
use Rattle.mdl_lock_rows.proofs.numbering.owners_among.Given as goal

abbrev pub invariant-loop-row : goal.invariant-loop-row
invariant-loop-row l = l.owners.items ≡ owners_among (take l.row-index l.rows) l.threads.keys
