-- By its lemma.
use Rattle.mdl_steps_laws.proofs.StepEvents.{putting_brings}
use Rattle.mdl_steps_laws.proofs.steps.putting_brings.Goals as goal

pub returns : goal.returns
returns c = putting_brings
