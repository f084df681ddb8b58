-- A sample of the tickets so far.
use Rattle.std.proofs.Common.{take}
use Rattle.mdl_view.specs.Samples.{IsSample}
use Rattle.mdl_view.proofs.sample.sample_of.Given as goal

abbrev pub invariant-loop-ticket : goal.invariant-loop-ticket
invariant-loop-ticket l = IsSample l.few.items (take l.ticket-index l.tickets)
