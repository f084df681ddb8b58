-- By its lemma.
use Rattle.mdl_steps_laws.proofs.RestKinds.{lowering_rests}
use Rattle.mdl_steps_laws.proofs.rests.lowering_rests.Goals as goal

pub returns : goal.returns
returns c = lowering_rests
