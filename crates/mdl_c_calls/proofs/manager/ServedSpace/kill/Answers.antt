-- The space goes on to serve each session, and its context.
use Rattle.std.proofs.Common.{refl}
use Rattle.mdl_calls.specs.Words.{Has_killed, Kill}
use Rattle.mdl_c_calls.proofs.ManagerLemmas.{serves-still}
use Rattle.mdl_c_calls.proofs.manager.ServedSpace.kill.Goals as goal

pub invariant_of-self : goal.invariant_of-self
invariant_of-self c =
    serves-still _ c.kill.new.self (Kill c.args.target c.args.number) (Has_killed c.kill.result) c.self.inside.sessions c.self.inside.seats.items refl
    (λ own. (refl, refl, λ place pinned. pinned)) c.self.invariant c.kill.ensures
