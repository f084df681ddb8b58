-- The ticket of the number is the only one, and it is counted at its place.
use Rattle.std.proofs.Common.{rules, Some, ap, ◌∙◌, sym}
use Rattle.mdl_shared.proofs.TicketEdits.{find_nowhere, find_there, found_inside}
use Rattle.mdl_shared.proofs.tickets.Tickets.get.Goals as goal

pub returns-in_err-ticket : goal.returns-in_err-ticket
returns-in_err-ticket c =
    let none = find_nowhere c.args.id c.self.inside.places.items c.self.inside.gained.items c.self.invariant.rising (rw c.deref.ensures.value at c.in_err-ticket.ensures) in
    rw (← c.self.view_is) (search (rules, none))

pub returns-clause-found : goal.returns-clause-found
returns-clause-found c =
    let ticket = c.in_ok-ticket.ticket in
    let its = rw c.deref.ensures.value at c.in_ok-ticket.ensures in
    let found = find_there c.args.id c.self.inside.places.items c.self.inside.gained.items its.0 ticket c.self.invariant.rising its.1 in
    let this = rw (← its.2) at found in
    rw (← c.self.view_is) (ap Some (rw c.deref-2.ensures.value at c.own_of.ensures) ∙ sym this)

pub returns-clause-reached : goal.returns-clause-reached
returns-clause-reached c =
    let ticket = c.in_ok-ticket.ticket in
    let its = rw c.deref.ensures.value at c.in_ok-ticket.ensures in
    let inside = found_inside c.self.inside.places.items c.self.inside.gained.items its.0 ticket its.1.0 its.2 (c.self.invariant.counted ticket.place) in
    rw (← c.self.view_is, c.own_of.ensures) inside
