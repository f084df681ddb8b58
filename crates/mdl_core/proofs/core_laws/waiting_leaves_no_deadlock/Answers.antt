-- By its lemma.
use Rattle.mdl_core.proofs.CallDeadlocks.{waiting-leaves}
use Rattle.mdl_core.proofs.core_laws.waiting_leaves_no_deadlock.Goals as goal

pub returns : goal.returns
returns c = waiting-leaves
