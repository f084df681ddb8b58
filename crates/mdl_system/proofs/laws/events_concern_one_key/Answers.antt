-- By its lemma.
use Rattle.mdl_system.proofs.ConcernLemmas.{step-concerns}
use Rattle.mdl_system.proofs.laws.events_concern_one_key.Goals as goal

pub returns : goal.returns
returns g c = step-concerns
