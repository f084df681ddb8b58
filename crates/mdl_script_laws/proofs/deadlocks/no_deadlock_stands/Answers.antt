-- By its lemma.
use Rattle.mdl_script_laws.proofs.NoDeadlockWorlds.{no_deadlock}
use Rattle.mdl_script_laws.proofs.deadlocks.no_deadlock_stands.Goals as goal

pub returns : goal.returns
returns c = no_deadlock
