-- By its lemma.
use Rattle.mdl_context.proofs.SureLemmas.{own_calls}
use Rattle.mdl_context.proofs.memory_laws.contexts_call_for_their_session.Goals as goal

pub returns : goal.returns
returns c = own_calls
