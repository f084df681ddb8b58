-- Each box is to the right of the arrows of the one before.
use Rattle.mdl_picture.proofs.ArrowLaws.{arrows_are_set_apart}
use Rattle.mdl_picture.proofs.laws.arrows_are_set_apart.Goals as goal

pub returns : goal.returns
returns c = arrows_are_set_apart
