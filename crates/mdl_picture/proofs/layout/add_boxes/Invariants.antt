-- The boxes of so many events.
use Rattle.std.proofs.Common.{◌≡◌, take}
use Rattle.std.specs.List.{fold}
use Rattle.mdl_picture.specs.Layouts.{Course, with_box}
use Rattle.mdl_picture.proofs.layout.add_boxes.Given as goal

abbrev pub invariant-loop-event : goal.invariant-loop-event
invariant-loop-event l =
    let now : Course = record { next = l.next; boxes = l.boxes.items } in
    now ≡ fold (with_box l.moment.line) (record { next = l.column; boxes = l.fn.boxes.items }) (take l.event-index l.moment.events)
