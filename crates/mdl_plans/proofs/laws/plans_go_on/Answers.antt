-- By its lemma.
use Rattle.mdl_plans.proofs.AgainLemmas.{plans-go-on}
use Rattle.mdl_plans.proofs.laws.plans_go_on.Goals as goal

pub returns : goal.returns
returns c = plans-go-on
