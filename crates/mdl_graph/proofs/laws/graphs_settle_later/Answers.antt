-- A cycle's members all wait, so who is settled matters only among them.
use Rattle.mdl_graph.proofs.UnsettledLemmas.{settles_later}
use Rattle.mdl_graph.proofs.laws.graphs_settle_later.Goals as goal

pub returns : goal.returns
returns c = λ settled books graph from is. settles_later settled books graph from is
