-- Each box is behind the last one of its row.
use Rattle.mdl_picture.proofs.BoxLaws.{boxes_are_apart}
use Rattle.mdl_picture.proofs.laws.boxes_are_apart.Goals as goal

pub returns : goal.returns
returns c = boxes_are_apart
