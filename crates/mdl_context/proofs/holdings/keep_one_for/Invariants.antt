-- The tickets so far are changed, and the others are as they were.
use Rattle.std.proofs.Common.{◌≡◌, ◌++◌, take, drop}
use Rattle.mdl_context.specs.Holdings.{with_duration}
use Rattle.mdl_context.proofs.holdings.keep_one_for.Given as goal

abbrev pub invariant-loop-ticket : goal.invariant-loop-ticket
invariant-loop-ticket l = l.tickets ≡ with_duration l.id l.duration (take l.ticket-index l.fn.tickets) ++ drop l.ticket-index l.fn.tickets
