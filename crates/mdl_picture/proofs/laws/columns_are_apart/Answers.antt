-- Each column is behind the one before.
use Rattle.mdl_picture.proofs.BoxLaws.{columns_are_apart}
use Rattle.mdl_picture.proofs.laws.columns_are_apart.Goals as goal

pub returns : goal.returns
returns c = columns_are_apart
