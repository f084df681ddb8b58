-- The tickets so far were copied.
use Rattle.std.proofs.Common.{◌≡◌, map, take}
use Rattle.mdl_view.specs.Locks.{waiting_ticket}
use Rattle.mdl_view.proofs.lock.waiting_tickets.Given as goal

abbrev pub invariant-loop-ticket : goal.invariant-loop-ticket
invariant-loop-ticket l = l.copy.items ≡ map waiting_ticket (take l.ticket-index l.tickets)
