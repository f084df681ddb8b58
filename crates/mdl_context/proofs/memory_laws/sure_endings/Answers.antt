-- By its lemma.
use Rattle.mdl_context.proofs.SureLemmas.{sure-endings}
use Rattle.mdl_context.proofs.memory_laws.sure_endings.Goals as goal

pub returns : goal.returns
returns c = sure-endings
