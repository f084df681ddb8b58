-- The ticket is gained, or the wait begins, or nothing has changed.
use Rattle.std.proofs.Common.{refl, ap}
use Rattle.mdl_calls.specs.SessionLocks.{is_waiting}
use Rattle.mdl_context.proofs.GainLemmas.{own-waited, placed-want, placed-wish}
use Rattle.mdl_context.proofs.asking.wait_at.Goals as goal

pub wait_on-requires-clause-waits : goal.wait_on-requires-clause-waits
wait_on-requires-clause-waits g c =
    let arm = c.in-Ok-Waiting in
    ap is_waiting (g.met.S.LockSpace.laws.changes _ _ _ _ _ refl (rw (arm.is, arm.field-0-is) at c.begin_wait.ensures))

pub returns-in-Ok-Granted-clause-own : goal.returns-in-Ok-Granted-clause-own
returns-in-Ok-Granted-clause-own g c =
    let arm = c.in-Ok-Granted in
    g.met.S.LockSpace.laws.changes _ _ _ _ _ refl (rw (arm.is, arm.field-0-is) at c.begin_wait.ensures)

pub returns-in-Ok-Waiting-clause-own : goal.returns-in-Ok-Waiting-clause-own
returns-in-Ok-Waiting-clause-own g c =
    let arm = c.in-Ok-Waiting in
    let began = g.met.S.LockSpace.laws.changes _ _ _ _ _ refl (rw (arm.is, arm.field-0-is) at c.begin_wait.ensures) in
    own-waited arm.number c.args.place c.args.mode _ _ _ _ c.wait_on.ensures.own began c.requires.idle

pub returns-in-Err-clause-own : goal.returns-in-Err-clause-own
returns-in-Err-clause-own g c = g.met.S.LockSpace.laws.changes _ _ _ _ _ refl (rw c.in-Err.is at c.begin_wait.ensures)

pub returns-in-Ok-Waiting-clause-placed : goal.returns-in-Ok-Waiting-clause-placed
returns-in-Ok-Waiting-clause-placed g c = placed-want c.wait_on.result c.wait_on.ensures.refused

pub returns-in-Err-clause-placed : goal.returns-in-Err-clause-placed
returns-in-Err-clause-placed g c =
    placed-wish _ c.args.place c.args.mode c.in-Err.refusal _ (g.met.S.LockSpace.laws.explains _ _ _ _ _ refl (rw c.in-Err.is at c.begin_wait.ensures)) c.requires.pinned
