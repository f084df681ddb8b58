-- Who waits where more are settled waits where fewer are.
use Rattle.mdl_graph.proofs.SettledLemmas.{cycle_stays}
use Rattle.mdl_graph.proofs.laws.fewer_settled_keep_cycles.Goals as goal

pub returns : goal.returns
returns c = λ settled fewer books from cycle within. cycle_stays settled fewer within books from cycle
