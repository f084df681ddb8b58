-- Each element has distinct attributes.
use Rattle.mdl_picture.proofs.PictureLaws.{picture_is_well_formed}
use Rattle.mdl_picture.proofs.laws.pictures_are_well_formed.Goals as goal

pub returns : goal.returns
returns c = picture_is_well_formed
