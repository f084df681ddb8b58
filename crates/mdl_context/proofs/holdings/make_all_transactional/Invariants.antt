-- The tickets so far are changed, and the others are as they were.
use Rattle.std.proofs.Common.{◌≡◌, ◌++◌, take, drop}
use Rattle.std.specs.Prelude.{map}
use Rattle.mdl_context.specs.Holdings.{transactional}
use Rattle.mdl_context.proofs.holdings.make_all_transactional.Given as goal

abbrev pub invariant-loop-ticket : goal.invariant-loop-ticket
invariant-loop-ticket l = l.tickets ≡ map (transactional l.fn.known) (take l.ticket-index l.fn.tickets) ++ drop l.ticket-index l.fn.tickets
