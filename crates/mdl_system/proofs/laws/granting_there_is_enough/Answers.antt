-- By its lemma.
use Rattle.mdl_system.proofs.ConcernLemmas.{granting-there}
use Rattle.mdl_system.proofs.laws.granting_there_is_enough.Goals as goal

pub returns : goal.returns
returns g c = granting-there
