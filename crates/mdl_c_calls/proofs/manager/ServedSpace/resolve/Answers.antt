-- The space goes on to serve each session, and its context.
use Rattle.std.proofs.Common.{refl}
use Rattle.mdl_calls.specs.Words.{Resolve, placed}
use Rattle.mdl_c_calls.proofs.ContextLemmas.{resolved-still}
use Rattle.mdl_c_calls.proofs.ManagerLemmas.{serves-still}
use Rattle.mdl_c_calls.proofs.manager.ServedSpace.resolve.Goals as goal

pub invariant_of-self : goal.invariant_of-self
invariant_of-self c =
    serves-still _ c.resolve.new.self (Resolve c.args.who c.args.key.now) (placed c.resolve.result) c.self.inside.sessions c.self.inside.seats.items refl
    (resolved-still c.args.who c.args.key.now (placed c.resolve.result)) c.self.invariant c.resolve.ensures
