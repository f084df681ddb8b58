-- Both ways by a lemma.
use Rattle.mdl_graph.proofs.OrderLemmas.{before_by}
use Rattle.mdl_graph.proofs.laws.shorter_cycles_come_first.Goals as goal

pub returns : goal.returns
returns c = λ one other. before_by one other
