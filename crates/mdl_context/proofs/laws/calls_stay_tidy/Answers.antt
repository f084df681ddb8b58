-- By its lemma.
use Rattle.mdl_context.proofs.StayTidyLemmas.{stay-tidy}
use Rattle.mdl_context.proofs.laws.calls_stay_tidy.Goals as goal

pub returns : goal.returns
returns c = stay-tidy
