-- Below so many of the rows.
use Rattle.std.proofs.Common.{◌≡◌, take}
use Rattle.mdl_picture.specs.Rows.{bottom}
use Rattle.mdl_picture.proofs.rows.bottom.Given as goal

abbrev pub invariant-loop-row : goal.invariant-loop-row
invariant-loop-row l = l.y ≡ bottom (take l.row-index l.rows)
