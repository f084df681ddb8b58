-- Byte by byte.
use Rattle.mdl_picture.proofs.XmlLaws.{texts_are_kept}
use Rattle.mdl_picture.proofs.laws.texts_are_kept.Goals as goal

pub returns : goal.returns
returns c = texts_are_kept
