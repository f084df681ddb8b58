-- By the clauses of the rule at one place.
use Rattle.mdl_steps.proofs.Tells.{reads_told}
use Rattle.mdl_steps.proofs.laws.reads_are_of_what_stands.Goals as goal

pub returns : goal.returns
returns c = reads_told
