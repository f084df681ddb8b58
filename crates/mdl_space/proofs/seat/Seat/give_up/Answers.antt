-- To take the ticket out at its place is to keep the others.
use Rattle.std.proofs.Common.{List, sym, ap, ◌∙◌}
use Rattle.std.specs.Prelude.{IsTrue}
use Rattle.mdl_calls.specs.declared.answers.Held.{Held}
use Rattle.mdl_calls.specs.SessionLocks.{are_rising}
use Rattle.mdl_core.specs.Seats.{SeatView}
use Rattle.mdl_space.proofs.SearchLemmas.{without_at, without_none}
use Rattle.mdl_space.proofs.seat.Seat.give_up.Goals as goal

abbrev with_held : SeatView → List Held → SeatView
with_held seat held = record { held = held; wait = seat.wait; pins = seat.pins; last_ticket = seat.last_ticket; last_wait = seat.last_wait }

pub returns-in-Some : goal.returns-in-Some
returns-in-Some c =
    let inside = c.self.inside in
    let seat : SeatView = record { held = inside.held.items; wait = inside.wait; pins = inside.pins.places; last_ticket = inside.last_ticket; last_wait = inside.last_wait } in
    let place = rw c.deref.ensures.value at (sym c.in-Some.is ∙ c.index_of.ensures) in
    let rising : IsTrue (are_rising inside.held.items) = rw (← c.self.view_is) at c.requires in
    let left = c.remove.ensures.items ∙ sym (without_at c.args.id inside.held.items c.in-Some.at rising place) in
    rw (← c.self.view_is) (ap (with_held seat) left)

pub returns-in_default : goal.returns-in_default
returns-in_default c =
    let inside = c.self.inside in
    let seat : SeatView = record { held = inside.held.items; wait = inside.wait; pins = inside.pins.places; last_ticket = inside.last_ticket; last_wait = inside.last_wait } in
    let place = rw c.deref.ensures.value at (sym c.in_default.is ∙ c.index_of.ensures) in
    let same = sym (without_none c.args.id inside.held.items place) in
    rw (← c.self.view_is) (ap (with_held seat) same)
