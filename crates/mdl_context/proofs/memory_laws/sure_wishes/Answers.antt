-- By its lemma.
use Rattle.mdl_context.proofs.SureLemmas.{sure-wishes}
use Rattle.mdl_context.proofs.memory_laws.sure_wishes.Goals as goal

pub returns : goal.returns
returns c = sure-wishes
