-- Rows for so many of the sessions.
use Rattle.std.proofs.Common.{◌≡◌, take}
use Rattle.std.specs.List.{fold}
use Rattle.mdl_picture.specs.Rows.{with_holder, with_row}
use Rattle.mdl_picture.proofs.rows.add_event_rows.Given as goal

abbrev pub invariant-loop-session : goal.invariant-loop-session
invariant-loop-session l = l.rows.items ≡ fold with_row (with_row l.fn.rows.items l.event.session) (take l.session-index l.event.in_the_way)

abbrev pub invariant-loop-held : goal.invariant-loop-held
invariant-loop-held l =
    l.rows.items
    ≡ fold with_holder (fold with_row (with_row l.fn.rows.items l.event.session) l.event.in_the_way) (take l.held-index l.event.held)
