-- The tickets that are left stand behind those that are gone.
use Rattle.std.proofs.Common.{length, arith, ap, sym}
use Rattle.std.proofs.lemmas.List.{drop-drop, length-drop}
use Rattle.mdl_book.proofs.ListLemmas.{drop-remove}
use Rattle.mdl_book.proofs.ticket_queue.TicketQueue.remove.Goals as goal

pub returns-else-self-len-clause-tickets : goal.returns-else-self-len-clause-tickets
returns-else-self-len-clause-tickets c = rw (← c.self.view_is, c.if-at-eq0.true) (sym (drop-drop 1 c.self.inside.gone c.self.inside.tickets.items))

pub overflow_add-self-inside : goal.overflow_add-self-inside
overflow_add-self-inside c = let within = rw (← c.self.view_is) at c.requires in omega (arith, length-drop c.self.inside.gone c.self.inside.tickets.items, within, ap length c.as_slice.ensures, c.as_slice.type_inv.0)

pub returns-clause-tickets : goal.returns-clause-tickets
returns-clause-tickets c = rw (c.remove.ensures.items, ← c.self.view_is) (drop-remove c.self.inside.gone c.args.at c.self.inside.tickets.items c.self.invariant)
