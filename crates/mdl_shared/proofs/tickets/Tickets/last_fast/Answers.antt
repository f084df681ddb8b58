-- The last ticket has the greatest number.
use Rattle.mdl_shared.proofs.TicketEnds.{ends-fast}
use Rattle.mdl_shared.proofs.tickets.Tickets.last_fast.Goals as goal

pub returns : goal.returns
returns c =
    let last = rw c.deref.ensures.value at c.in_ok-last.ensures in
    let own = rw c.deref-2.ensures.value at c.own_of.ensures in
    rw (← c.self.view_is) (ends-fast c.self.inside.places.items c.self.inside.gained.items c.args.id c.in_ok-last.last c.own_of.result c.self.invariant.rising last.0 last.1 own)
