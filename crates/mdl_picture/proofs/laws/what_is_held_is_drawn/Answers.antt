-- A bar goes on up to the first event after which its lock is not held.
use Rattle.mdl_picture.proofs.HoldLaws.{held_is_drawn}
use Rattle.mdl_picture.proofs.laws.what_is_held_is_drawn.Goals as goal

pub returns : goal.returns
returns c = held_is_drawn
