-- By the clauses of the rule at one place.
use Rattle.mdl_steps.proofs.Tells.{noted_told}
use Rattle.mdl_steps.proofs.laws.noted_versions_stand.Goals as goal

pub returns : goal.returns
returns c = noted_told
