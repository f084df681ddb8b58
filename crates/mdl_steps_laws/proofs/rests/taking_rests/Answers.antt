-- By its lemma.
use Rattle.mdl_steps_laws.proofs.RestKinds.{taking_rests}
use Rattle.mdl_steps_laws.proofs.rests.taking_rests.Goals as goal

pub returns : goal.returns
returns c = taking_rests
