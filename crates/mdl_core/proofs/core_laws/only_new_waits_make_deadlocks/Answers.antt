-- By its lemma.
use Rattle.mdl_core.proofs.CallDeadlocks.{only-new_waits}
use Rattle.mdl_core.proofs.core_laws.only_new_waits_make_deadlocks.Goals as goal

pub returns : goal.returns
returns c = only-new_waits
