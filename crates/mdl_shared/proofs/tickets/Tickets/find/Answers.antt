-- The ticket of the number is the only one, and it is a fast one or not.
use Rattle.std.proofs.Common.{if◌then◌else◌, rules, None, Some, ap, ◌∙◌, sym}
use Rattle.mdl_shared.proofs.TicketEdits.{find_at, find_none, find_nowhere, find_there}
use Rattle.mdl_shared.proofs.tickets.Tickets.find.Goals as goal

pub returns-in_err-at : goal.returns-in_err-at
returns-in_err-at c =
    let ps = c.self.inside.places.items in
    let xs = c.self.inside.gained.items in
    let none = find_nowhere c.args.id ps xs c.self.invariant.rising (rw c.deref.ensures.value at c.in_err-at.ensures) in
    let slow = find_none c.args.id ps (λ t. t.fast) xs (rw c.deref.ensures.value at c.in_err-at.ensures) in
    rw (← c.self.view_is) (search (rules, none, slow))

pub returns : goal.returns
returns c =
    let ps = c.self.inside.places.items in
    let xs = c.self.inside.gained.items in
    let ticket = c.index-ticket.result.now in
    let there = find_there c.args.id ps xs c.in_ok-at.at ticket c.self.invariant.rising (rw c.deref.ensures.value at c.in_ok-at.ensures) in
    let its = rw (← c.index-ticket.ensures) at there in
    let either = find_at c.args.id ps (λ t. t.fast) xs c.in_ok-at.at ticket c.self.invariant.rising (rw c.deref.ensures.value at c.in_ok-at.ensures) in
    let fast = rw (← c.index-ticket.ensures) at either in
    let own = rw c.deref-2.ensures.value at c.own_of.ensures in
    rw (← c.self.view_is) (record { found = ap Some own ∙ sym its; fast = ap (λ o. if ticket.fast then Some o else None) own ∙ sym fast })
