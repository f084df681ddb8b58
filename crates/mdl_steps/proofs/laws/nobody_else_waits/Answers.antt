-- By the clauses of the rule on waits.
use Rattle.mdl_steps.proofs.WaitTells.{nobody_else}
use Rattle.mdl_steps.proofs.laws.nobody_else_waits.Goals as goal

pub returns : goal.returns
returns c = nobody_else
