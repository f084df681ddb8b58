-- By its lemma.
use Rattle.mdl_steps_laws.proofs.RestKinds.{putting_reading_rests}
use Rattle.mdl_steps_laws.proofs.rests.putting_reading_rests.Goals as goal

pub returns : goal.returns
returns c = putting_reading_rests
