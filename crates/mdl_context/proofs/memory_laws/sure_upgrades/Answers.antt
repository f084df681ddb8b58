-- By its lemma.
use Rattle.mdl_context.proofs.SureLemmas.{sure-upgrades}
use Rattle.mdl_context.proofs.memory_laws.sure_upgrades.Goals as goal

pub returns : goal.returns
returns c = sure-upgrades
