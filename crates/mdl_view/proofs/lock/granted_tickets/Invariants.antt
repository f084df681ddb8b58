-- The tickets so far were copied.
use Rattle.std.proofs.Common.{◌≡◌, map, take}
use Rattle.mdl_view.specs.Locks.{granted_ticket}
use Rattle.mdl_view.proofs.lock.granted_tickets.Given as goal

abbrev pub invariant-loop-ticket : goal.invariant-loop-ticket
invariant-loop-ticket l = l.copy.items ≡ map granted_ticket (take l.ticket-index l.tickets)
