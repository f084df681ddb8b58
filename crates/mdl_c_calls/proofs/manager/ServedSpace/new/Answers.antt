-- A new space serves its sessions, of which none has a context.
use Rattle.mdl_c_calls.proofs.ManagerLemmas.{serves-new}
use Rattle.mdl_c_calls.proofs.manager.ServedSpace.new.Goals as goal

pub invariant_of-result : goal.invariant_of-result
invariant_of-result c = serves-new c.in_ok-space.space c.args.sessions c.in-Ok.seats.items c.in_ok-space.ensures.speaks c.in-Ok.ensures
