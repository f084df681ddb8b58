-- By its lemma.
use Rattle.mdl_system.proofs.DeadlockCauses.{event-through}
use Rattle.mdl_system.proofs.laws.events_make_deadlocks_by_waiting.Goals as goal

pub returns : goal.returns
returns g c = λ apply event a b sessions well step. event-through apply event a b sessions well step
