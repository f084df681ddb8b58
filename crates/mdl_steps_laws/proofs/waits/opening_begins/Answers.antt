-- By its lemma.
use Rattle.mdl_steps_laws.proofs.WaitOpens.{opening_begins}
use Rattle.mdl_steps_laws.proofs.waits.opening_begins.Goals as goal

pub returns : goal.returns
returns c = opening_begins
