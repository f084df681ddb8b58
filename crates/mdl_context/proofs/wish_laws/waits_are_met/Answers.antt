-- By its lemmas.
use Rattle.mdl_context.proofs.OutcomeLemmas.{resumes, gives_up}
use Rattle.mdl_context.proofs.wish_laws.waits_are_met.Goals as goal

pub returns : goal.returns
returns c = λ context. (resumes context, gives_up context)
