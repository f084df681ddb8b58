-- By its lemmas.
use Rattle.mdl_context.proofs.MemoryLemmas.{faithful_acquiring, faithful_trying}
use Rattle.mdl_context.proofs.memory_laws.wishes_tell_of_want.Goals as goal

pub returns : goal.returns
returns c = λ request context. (faithful_acquiring request context, faithful_trying request context)
