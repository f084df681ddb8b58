-- The space attends to the session.
use Rattle.mdl_context.specs.Contexts.{Attends}
use Rattle.mdl_bench.proofs.contexts.time_ends.Given as goal

abbrev pub invariant-loop-turn : goal.invariant-loop-turn
invariant-loop-turn g l = Attends g.S.LockSpace l.space l.context
