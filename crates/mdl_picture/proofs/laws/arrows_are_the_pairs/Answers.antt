-- Box by box.
use Rattle.mdl_picture.proofs.ArrowLaws.{arrows_are_pairs}
use Rattle.mdl_picture.proofs.laws.arrows_are_the_pairs.Goals as goal

pub returns : goal.returns
returns c = arrows_are_pairs
