-- Both ways by a lemma.
use Rattle.mdl_graph.proofs.RoundLemmas.{rounds_by}
use Rattle.mdl_graph.proofs.laws.cycles_are_rounds.Goals as goal

pub returns : goal.returns
returns c = λ waits from cycle. rounds_by waits from cycle
