-- The ticket is gained, or it is waited for, or nothing has changed.
use Rattle.std.proofs.Common.{refl, ap, ◌∙◌}
use Rattle.mdl_calls.specs.SessionLocks.{SessionLocks, is_pinned}
use Rattle.mdl_context.specs.Gains.{own_got}
use Rattle.mdl_context.proofs.GainLemmas.{placed-wish}
use Rattle.mdl_context.proofs.asking.ask.Goals as goal

pub wait_at-requires-clause-idle : goal.wait_at-requires-clause-idle
wait_at-requires-clause-idle g c =
    let arm = c.in-Ok-WouldWait in
    ap (λ (own : SessionLocks). own.wait) (g.met.S.LockSpace.laws.changes _ _ _ _ _ refl (rw (arm.is, arm.field-0-is) at c.try_now.ensures)) ∙ c.requires.idle

pub returns-in-Ok-Granted-clause-own : goal.returns-in-Ok-Granted-clause-own
returns-in-Ok-Granted-clause-own g c =
    let arm = c.in-Ok-Granted in
    g.met.S.LockSpace.laws.changes _ _ _ _ _ refl (rw (arm.is, arm.field-0-is) at c.try_now.ensures)

pub returns-in-Ok-WouldWait-clause-own : goal.returns-in-Ok-WouldWait-clause-own
returns-in-Ok-WouldWait-clause-own g c =
    let arm = c.in-Ok-WouldWait in
    c.wait_at.ensures.own ∙ ap (own_got c.args.place c.args.mode c.wait_at.result) (g.met.S.LockSpace.laws.changes _ _ _ _ _ refl (rw (arm.is, arm.field-0-is) at c.try_now.ensures))

pub returns-in-Err-clause-own : goal.returns-in-Err-clause-own
returns-in-Err-clause-own g c = g.met.S.LockSpace.laws.changes _ _ _ _ _ refl (rw c.in-Err.is at c.try_now.ensures)

pub wait_at-requires-clause-pinned : goal.wait_at-requires-clause-pinned
wait_at-requires-clause-pinned g c =
    let arm = c.in-Ok-WouldWait in
    ap (is_pinned c.args.place) (g.met.S.LockSpace.laws.changes _ _ _ _ _ refl (rw (arm.is, arm.field-0-is) at c.try_now.ensures)) ∙ c.requires.pinned

pub returns-in-Err-clause-placed : goal.returns-in-Err-clause-placed
returns-in-Err-clause-placed g c =
    placed-wish _ c.args.place c.args.mode c.in-Err.refusal _ (g.met.S.LockSpace.laws.explains _ _ _ _ _ refl (rw c.in-Err.is at c.try_now.ensures)) c.requires.pinned
