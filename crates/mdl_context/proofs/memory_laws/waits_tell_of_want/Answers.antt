-- By its lemmas.
use Rattle.mdl_context.proofs.MemoryLemmas.{faithful_resuming, faithful_giving_up_wait, frugal_resuming}
use Rattle.mdl_context.proofs.memory_laws.waits_tell_of_want.Goals as goal

pub returns : goal.returns
returns c = λ context. (faithful_resuming context, faithful_giving_up_wait context, frugal_resuming context)
