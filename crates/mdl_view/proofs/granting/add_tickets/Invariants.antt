-- The tickets so far were added.
use Rattle.std.proofs.Common.{◌≡◌, ◌++◌, map, take}
use Rattle.mdl_view.specs.Blockings.{at_lock}
use Rattle.mdl_view.proofs.granting.add_tickets.Given as goal

abbrev pub invariant-loop-ticket : goal.invariant-loop-ticket
invariant-loop-ticket l = l.found.items ≡ l.fn.found.items ++ map (at_lock l.place) (take l.ticket-index l.tickets)
