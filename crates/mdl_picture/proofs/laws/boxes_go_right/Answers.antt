-- No box is left of the one before.
use Rattle.mdl_picture.proofs.BoxLaws.{boxes_go_right}
use Rattle.mdl_picture.proofs.laws.boxes_go_right.Goals as goal

pub returns : goal.returns
returns c = boxes_go_right
