-- Each event adds its box.
use Rattle.mdl_picture.proofs.BoxLaws.{boxes_are_events}
use Rattle.mdl_picture.proofs.laws.boxes_are_the_events.Goals as goal

pub returns : goal.returns
returns c = boxes_are_events
