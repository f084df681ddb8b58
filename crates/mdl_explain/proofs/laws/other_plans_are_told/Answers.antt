-- Statement by statement.
use Rattle.mdl_explain.proofs.LawLemmas.{other_plans_are_told}
use Rattle.mdl_explain.proofs.laws.other_plans_are_told.Goals as goal

pub returns : goal.returns
returns c = other_plans_are_told
