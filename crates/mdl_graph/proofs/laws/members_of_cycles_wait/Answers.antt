-- Each member of a cycle waits for the next, at a lock.
use Rattle.mdl_graph.proofs.DeadlockLemmas.{cycle_waits}
use Rattle.mdl_graph.proofs.laws.members_of_cycles_wait.Goals as goal

pub returns : goal.returns
returns c = λ settled books from cycle is. cycle_waits settled books from cycle is
