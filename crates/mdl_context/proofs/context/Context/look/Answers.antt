-- To look after the wait changes nothing that the session has.
use Rattle.std.proofs.Common.{ap, refl, ◌≡◌}
use Rattle.mdl_calls.specs.Causes.{Knowledge}
use Rattle.mdl_context.specs.Contexts.{ContextView}
use Rattle.mdl_context.proofs.AttendLemmas.{attends-still}
use Rattle.mdl_context.proofs.ServingLemmas.{waits-there}
use Rattle.mdl_context.proofs.WaitLemmas.{is_ok-polled}
use Rattle.mdl_context.proofs.context.Context.look.Goals as goal

pub unwrap-requires : goal.unwrap-requires
unwrap-requires g c =
    let knows : Knowledge = g.S.LockSpace.knows c.args.space.now c.self.inside.who in
    is_ok-polled knows c.self.inside.who _ _ (g.met.S.LockSpace.laws.explains _ _ _ _ _ refl c.poll_wait.ensures) (waits-there _ _ (rw (← c.self.view_is) at c.requires.attends.serves) (rw (← c.self.view_is) at c.requires.waits))

pub end_wait-requires-clause-attends : goal.end_wait-requires-clause-attends
end_wait-requires-clause-attends g c =
    let same : c.self.inside.who ≡ c.args.self.now.who = ap (λ (v : ContextView). v.who) c.self.view_is in
    let laws = g.met.S.LockSpace.laws in
    attends-still g.S.LockSpace laws _ _ _ _ c.args.self.now c.requires.attends refl refl refl (rw (same, c.unwrap.ensures, c.in-Settled.is) at c.poll_wait.ensures)

pub returns-in-Pending-clause-attends : goal.returns-in-Pending-clause-attends
returns-in-Pending-clause-attends g c =
    let same : c.self.inside.who ≡ c.args.self.now.who = ap (λ (v : ContextView). v.who) c.self.view_is in
    let laws = g.met.S.LockSpace.laws in
    attends-still g.S.LockSpace laws _ _ _ _ c.args.self.now c.requires.attends refl refl refl (rw (same, c.unwrap.ensures, c.in-Pending.is) at c.poll_wait.ensures)
