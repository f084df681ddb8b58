-- By its lemma.
use Rattle.mdl_steps_laws.proofs.RestKeys.{informing_rests}
use Rattle.mdl_steps_laws.proofs.rests.informing_rests.Goals as goal

pub returns : goal.returns
returns c = informing_rests
