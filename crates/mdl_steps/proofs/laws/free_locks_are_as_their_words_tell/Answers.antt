-- By the clauses of the rule at one place.
use Rattle.mdl_steps.proofs.Tells.{free_told}
use Rattle.mdl_steps.proofs.laws.free_locks_are_as_their_words_tell.Goals as goal

pub returns : goal.returns
returns c = free_told
