-- A wait is settled at a later box of its row.
use Rattle.mdl_picture.proofs.WaitLaws.{waits_go_right}
use Rattle.mdl_picture.proofs.laws.waits_go_right.Goals as goal

pub returns : goal.returns
returns c = waits_go_right
