-- The same waits have the same chosen cycle.
use Rattle.mdl_graph.proofs.DeadlockLemmas.{graph_finds}
use Rattle.mdl_graph.proofs.laws.graphs_find_deadlocks.Goals as goal

pub returns : goal.returns
returns c = λ settled books graph from is. graph_finds settled books graph from is
