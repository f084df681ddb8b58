-- By the clauses of the rule at one place.
use Rattle.mdl_steps.proofs.Tells.{taken_told}
use Rattle.mdl_steps.proofs.laws.taken_latches_are_held.Goals as goal

pub returns : goal.returns
returns c = taken_told
