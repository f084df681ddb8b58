-- By its lemma.
use Rattle.mdl_steps_laws.proofs.RestKinds.{reading_rests}
use Rattle.mdl_steps_laws.proofs.rests.reading_rests.Goals as goal

pub returns : goal.returns
returns c = reading_rests
