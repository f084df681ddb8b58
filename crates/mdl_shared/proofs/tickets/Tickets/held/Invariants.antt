-- The tickets so far are told.
use Rattle.std.proofs.Common.{◌≡◌, take, [], map}
use Rattle.mdl_shared.proofs.Lemmas.{as_held, with_note}
use Rattle.mdl_shared.proofs.tickets.Tickets.held.Given as goal

abbrev pub invariant-loop-ticket : goal.invariant-loop-ticket
invariant-loop-ticket l = l.held.items ≡ map (λ t. as_held (with_note [] t)) (take l.ticket-index l.ticket-items)
