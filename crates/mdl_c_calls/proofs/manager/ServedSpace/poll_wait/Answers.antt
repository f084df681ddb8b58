-- The space goes on to serve each session, and its context.
use Rattle.std.proofs.Common.{refl}
use Rattle.mdl_calls.specs.Words.{Poll_wait, polled}
use Rattle.mdl_c_calls.proofs.ManagerLemmas.{serves-still}
use Rattle.mdl_c_calls.proofs.manager.ServedSpace.poll_wait.Goals as goal

pub invariant_of-self : goal.invariant_of-self
invariant_of-self c =
    serves-still _ c.poll_wait.new.self (Poll_wait c.args.who) (polled c.poll_wait.result) c.self.inside.sessions c.self.inside.seats.items refl
    (λ own. (refl, refl, λ place pinned. pinned)) c.self.invariant c.poll_wait.ensures
