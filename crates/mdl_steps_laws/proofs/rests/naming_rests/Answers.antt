-- By its lemma.
use Rattle.mdl_steps_laws.proofs.RestKeys.{naming_rests}
use Rattle.mdl_steps_laws.proofs.rests.naming_rests.Goals as goal

pub returns : goal.returns
returns c = naming_rests
