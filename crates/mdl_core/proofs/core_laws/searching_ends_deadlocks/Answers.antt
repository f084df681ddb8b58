-- By its lemma.
use Rattle.mdl_core.proofs.CallDeadlocks.{searching-ends}
use Rattle.mdl_core.proofs.core_laws.searching_ends_deadlocks.Goals as goal

pub returns : goal.returns
returns c = searching-ends
