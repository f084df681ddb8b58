-- Both together are the list.
use Rattle.mdl_shared.proofs.Lemmas.{ap, arith, as_held, map, parted, sym, take_all, ◌∙◌}
use Rattle.mdl_shared.proofs.TicketEdits.{told}
use Rattle.mdl_shared.proofs.tickets.Tickets.held.Goals as goal

pub returns : goal.returns
returns c =
    let ps = c.self.inside.places.items in
    let xs = c.self.inside.gained.items in
    let told_all = rw (take_all c.loop-ticket.ticket-index c.deref-ticket-items.result.now (omega arith), c.deref-ticket-items.ensures.value) at c.loop-ticket.invariant in
    rw (← c.self.view_is) (told_all ∙ sym (told ps xs) ∙ ap (map as_held) (sym (parted ps xs c.self.invariant.rising)))
