-- Rows for so many of the events.
use Rattle.std.proofs.Common.{◌≡◌, take}
use Rattle.std.specs.List.{fold}
use Rattle.mdl_picture.specs.Rows.{with_event_rows, with_row}
use Rattle.mdl_picture.proofs.rows.add_moment_rows.Given as goal

abbrev pub invariant-loop-event : goal.invariant-loop-event
invariant-loop-event l = l.rows.items ≡ fold with_event_rows (with_row l.fn.rows.items l.moment.session) (take l.event-index l.moment.events)
