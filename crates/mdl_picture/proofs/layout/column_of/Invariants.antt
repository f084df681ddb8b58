-- Behind the boxes of so many events.
use Rattle.std.proofs.Common.{◌≡◌, take}
use Rattle.std.specs.List.{fold}
use Rattle.mdl_picture.specs.Layouts.{behind_boxes}
use Rattle.mdl_picture.proofs.layout.column_of.Given as goal

abbrev pub invariant-loop-event : goal.invariant-loop-event
invariant-loop-event l = l.x ≡ fold (behind_boxes l.layout.boxes) l.layout.next (take l.event-index l.moment.events)
