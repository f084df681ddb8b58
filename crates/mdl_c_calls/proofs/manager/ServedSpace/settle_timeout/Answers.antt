-- The space goes on to serve each session, and its context.
use Rattle.std.proofs.Common.{refl}
use Rattle.mdl_calls.specs.Words.{Settle_timeout, timed_out}
use Rattle.mdl_c_calls.proofs.ManagerLemmas.{serves-still}
use Rattle.mdl_c_calls.proofs.manager.ServedSpace.settle_timeout.Goals as goal

pub invariant_of-self : goal.invariant_of-self
invariant_of-self c =
    serves-still _ c.settle_timeout.new.self (Settle_timeout c.args.who) (timed_out c.settle_timeout.result) c.self.inside.sessions c.self.inside.seats.items refl
    (λ own. (refl, refl, λ place pinned. pinned)) c.self.invariant c.settle_timeout.ensures
