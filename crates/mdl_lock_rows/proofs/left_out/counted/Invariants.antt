-- The rows so far are counted.
use Rattle.std.proofs.Common.{◌≡◌, map, take}
use Rattle.mdl_lock_rows.specs.Numbering.{counted_among}
use Rattle.mdl_lock_rows.proofs.left_out.counted.Given as goal

abbrev pub invariant-loop-row : goal.invariant-loop-row
invariant-loop-row l = l.left_out.items ≡ map (counted_among (take l.row-index l.rows)) l.known.keys
