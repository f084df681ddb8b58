-- By its lemma.
use Rattle.mdl_steps_laws.proofs.StepEvents.{lowering_brings}
use Rattle.mdl_steps_laws.proofs.steps.lowering_brings.Goals as goal

pub returns : goal.returns
returns c = lowering_brings
