-- By its lemma.
use Rattle.mdl_plans.proofs.PlayLemmas.{sessions-go-on-alike}
use Rattle.mdl_plans.proofs.laws.sessions_go_on_alike.Goals as goal

pub returns : goal.returns
returns c = sessions-go-on-alike
