-- By its lemma.
use Rattle.mdl_steps_laws.proofs.MetWaits.{met_waits_stay}
use Rattle.mdl_steps_laws.proofs.cares.met_waits_stay.Goals as goal

pub returns : goal.returns
returns c = met_waits_stay
