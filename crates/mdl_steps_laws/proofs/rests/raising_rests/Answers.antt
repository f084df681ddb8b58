-- By its lemma.
use Rattle.mdl_steps_laws.proofs.RestKinds.{raising_rests}
use Rattle.mdl_steps_laws.proofs.rests.raising_rests.Goals as goal

pub returns : goal.returns
returns c = raising_rests
