-- By its lemma.
use Rattle.mdl_system.proofs.HeldLemmas.{others-hold}
use Rattle.mdl_system.proofs.laws.others_hold_the_same.Goals as goal

pub returns : goal.returns
returns g c = others-hold
