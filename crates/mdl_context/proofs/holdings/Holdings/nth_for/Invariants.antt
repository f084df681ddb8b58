-- What is behind the tickets so far is behind fewer of the others.
use Rattle.std.proofs.Common.{◌≡◌, drop}
use Rattle.std.specs.Prelude.{slice_get}
use Rattle.mdl_context.specs.Contexts.{tickets_for}
use Rattle.mdl_context.proofs.holdings.Holdings.nth_for.Given as goal

abbrev pub invariant-loop-ticket : goal.invariant-loop-ticket
invariant-loop-ticket l = slice_get (tickets_for l.duration (drop l.ticket-index l.ticket-items)) l.left ≡ slice_get (tickets_for l.duration l.ticket-items) l.most
