-- By its lemma.
use Rattle.mdl_steps_laws.proofs.RestKinds.{putting_served_rests}
use Rattle.mdl_steps_laws.proofs.rests.putting_served_rests.Goals as goal

pub returns : goal.returns
returns c = putting_served_rests
