-- By its lemma.
use Rattle.mdl_steps_laws.proofs.RestKeys.{consulting_rests}
use Rattle.mdl_steps_laws.proofs.rests.consulting_rests.Goals as goal

pub returns : goal.returns
returns c = consulting_rests
