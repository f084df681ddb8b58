-- None of the places so far is pinned.
use Rattle.mdl_core.specs.Words.{locks_at}
use Rattle.mdl_c_calls.proofs.UnpinLemmas.{AreUnpinned}
use Rattle.mdl_c_calls.proofs.manager.contexts.pins_any.Given as goal

abbrev pub invariant-loop-index : goal.invariant-loop-index
invariant-loop-index l = AreUnpinned l.index (locks_at l.space l.who)
