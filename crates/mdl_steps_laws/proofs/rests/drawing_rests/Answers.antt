-- By its lemma.
use Rattle.mdl_steps_laws.proofs.RestKeys.{drawing_rests}
use Rattle.mdl_steps_laws.proofs.rests.drawing_rests.Goals as goal

pub returns : goal.returns
returns c = drawing_rests
