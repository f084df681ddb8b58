-- The space attends to the session.
use Rattle.mdl_context.specs.Contexts.{Attends}
use Rattle.mdl_bench.proofs.contexts.stock_up.Given as goal

abbrev pub invariant-loop-index : goal.invariant-loop-index
invariant-loop-index g l = Attends g.S.LockSpace l.space l.context
