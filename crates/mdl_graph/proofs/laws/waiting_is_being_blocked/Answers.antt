-- Told lock by lock.
use Rattle.mdl_graph.proofs.WaitingLemmas.{waits_by}
use Rattle.mdl_graph.proofs.laws.waiting_is_being_blocked.Goals as goal

pub returns : goal.returns
returns c = λ settled books waiter other. waits_by settled books waiter other
