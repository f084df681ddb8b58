-- By the clauses of the rule at one place.
use Rattle.mdl_steps.proofs.Tells.{held_told}
use Rattle.mdl_steps.proofs.laws.held_locks_are_as_their_records_tell.Goals as goal

pub returns : goal.returns
returns c = held_told
