-- The space goes on to serve each session, and its context.
use Rattle.std.proofs.Common.{refl}
use Rattle.mdl_calls.specs.Words.{Has_wait, Wait_of}
use Rattle.mdl_c_calls.proofs.ManagerLemmas.{serves-still}
use Rattle.mdl_c_calls.proofs.manager.ServedSpace.wait_of.Goals as goal

pub invariant_of-self : goal.invariant_of-self
invariant_of-self c =
    serves-still _ c.wait_of.new.self (Wait_of c.args.who) (Has_wait c.wait_of.result) c.self.inside.sessions c.self.inside.seats.items refl
    (λ own. (refl, refl, λ place pinned. pinned)) c.self.invariant c.wait_of.ensures
