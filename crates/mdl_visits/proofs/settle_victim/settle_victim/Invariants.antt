-- The words of waits were read, and nothing was settled yet.
use Rattle.mdl_visits.specs.Searches.{OnlyReadsWaits}
use Rattle.mdl_visits.proofs.settle_victim.settle_victim.Given as goal

abbrev pub invariant-loop : goal.invariant-loop
invariant-loop g l = OnlyReadsWaits l.fn.seat l.seat
