-- By its lemma.
use Rattle.mdl_steps_laws.proofs.StepEvents.{writing_brings}
use Rattle.mdl_steps_laws.proofs.steps.writing_brings.Goals as goal

pub returns : goal.returns
returns c = writing_brings
