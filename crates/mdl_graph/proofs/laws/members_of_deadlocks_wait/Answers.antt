-- Each member of a cycle waits for the next, so it has a wish.
use Rattle.mdl_graph.proofs.DeadlockLemmas.{deadlock_waits}
use Rattle.mdl_graph.proofs.laws.members_of_deadlocks_wait.Goals as goal

pub returns : goal.returns
returns c = λ settled books from. deadlock_waits settled books from
