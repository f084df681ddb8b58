-- By its lemma.
use Rattle.mdl_steps_laws.proofs.RestSplits.{splitting_rests}
use Rattle.mdl_steps_laws.proofs.rests.splitting_rests.Goals as goal

pub returns : goal.returns
returns c = splitting_rests
