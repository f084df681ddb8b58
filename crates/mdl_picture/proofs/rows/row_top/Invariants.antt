-- Below so many of the rows.
use Rattle.std.proofs.Common.{◌≡◌, take}
use Rattle.mdl_picture.specs.Rows.{row_top}
use Rattle.mdl_picture.proofs.rows.row_top.Given as goal

abbrev pub invariant-loop-row : goal.invariant-loop-row
invariant-loop-row l = l.y ≡ row_top (take l.row-index l.rows) l.session
