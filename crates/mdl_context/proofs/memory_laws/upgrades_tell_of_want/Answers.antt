-- By its lemma.
use Rattle.mdl_context.proofs.MemoryLemmas.{faithful_upgrading}
use Rattle.mdl_context.proofs.memory_laws.upgrades_tell_of_want.Goals as goal

pub returns : goal.returns
returns c = faithful_upgrading
