-- By its lemma.
use Rattle.mdl_context.proofs.SureLemmas.{frugal_endings}
use Rattle.mdl_context.proofs.memory_laws.endings_take_no_memory.Goals as goal

pub returns : goal.returns
returns c = frugal_endings
