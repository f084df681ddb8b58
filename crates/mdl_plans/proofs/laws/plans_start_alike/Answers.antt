-- By its lemma.
use Rattle.mdl_plans.proofs.AllRows.{plans-start-alike}
use Rattle.mdl_plans.proofs.laws.plans_start_alike.Goals as goal

pub returns : goal.returns
returns c = plans-start-alike
