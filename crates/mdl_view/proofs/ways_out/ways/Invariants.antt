-- The ways about the sessions so far.
use Rattle.mdl_view.specs.Passes.{AreWaysBelow}
use Rattle.mdl_view.proofs.ways_out.ways.Given as goal

abbrev pub invariant-loop-session : goal.invariant-loop-session
invariant-loop-session l = AreWaysBelow l.locks l.session l.found.items
