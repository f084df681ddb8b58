-- The laws of the chosen cycle, where every waiter has a wish.
use Rattle.mdl_graph.proofs.DeadlockLemmas.{deadlock_chosen}
use Rattle.mdl_graph.proofs.laws.deadlocks_are_chosen_cycles.Goals as goal

pub returns : goal.returns
returns c = λ settled books from. deadlock_chosen settled books from
