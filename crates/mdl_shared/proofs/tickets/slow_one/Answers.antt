-- One ticket alone has the number, or none has it.
use Rattle.mdl_shared.proofs.TicketSlowing.{slowed_at, slowed_none}
use Rattle.mdl_shared.proofs.tickets.slow_one.Goals as goal

pub returns-in-Some-clause-items : goal.returns-in-Some-clause-items
returns-in-Some-clause-items c =
    let stands = rw (c.in-Some.is, c.deref.ensures.value) at c.index_of.ensures in
    slowed_at c.args.id c.args.tickets.now.items c.in-Some.at c.index_mut.result.now c.requires stands c.index_mut.ensures.value

pub returns-in_default-clause-items : goal.returns-in_default-clause-items
returns-in_default-clause-items c = slowed_none c.args.id c.args.tickets.now.items (rw (c.in_default.is, c.deref.ensures.value) at c.index_of.ensures)
