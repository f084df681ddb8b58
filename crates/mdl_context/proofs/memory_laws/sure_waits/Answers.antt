-- By its lemma.
use Rattle.mdl_context.proofs.SureLemmas.{sure-waits}
use Rattle.mdl_context.proofs.memory_laws.sure_waits.Goals as goal

pub returns : goal.returns
returns c = sure-waits
