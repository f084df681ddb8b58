-- The rows of so many moments.
use Rattle.std.proofs.Common.{◌≡◌, take}
use Rattle.mdl_picture.specs.Rows.{rows_of}
use Rattle.mdl_picture.proofs.rows.rows_of.Given as goal

abbrev pub invariant-loop-moment : goal.invariant-loop-moment
invariant-loop-moment l = l.rows.items ≡ rows_of (take l.moment-index l.moments)
