-- By its lemma.
use Rattle.mdl_system.proofs.DeadlockCauses.{run-through}
use Rattle.mdl_system.proofs.laws.runs_make_deadlocks_by_waiting.Goals as goal

pub returns : goal.returns
returns g c = λ apply events a b sessions well run. run-through apply events a b sessions well run
