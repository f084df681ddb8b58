-- The bars are the events that begin to wait.
use Rattle.mdl_picture.proofs.WaitLaws.{waits_are_drawn}
use Rattle.mdl_picture.proofs.laws.waits_are_drawn_once.Goals as goal

pub returns : goal.returns
returns c = waits_are_drawn
