-- By recursion on the members.
use Rattle.mdl_graph.proofs.VictimLemmas.{victim_falls}
use Rattle.mdl_graph.proofs.laws.victims_weigh_least.Goals as goal

pub returns : goal.returns
returns c = λ members some_member. victim_falls members some_member
