-- By the clauses of the rule on waits.
use Rattle.mdl_steps.proofs.WaitTells.{waiters_told}
use Rattle.mdl_steps.proofs.laws.waiters_are_as_their_words_tell.Goals as goal

pub returns : goal.returns
returns c = waiters_told
