-- By its lemma.
use Rattle.mdl_plans.proofs.AllRows.{plans-are-statements}
use Rattle.mdl_plans.proofs.laws.plans_are_statements.Goals as goal

pub returns : goal.returns
returns c = plans-are-statements
