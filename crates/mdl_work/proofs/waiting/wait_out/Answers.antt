-- Each look leaves one look fewer.
use Rattle.std.proofs.Common.{◌≡◌, ◌-◌, ◌+◌, ℕ, zero, suc, refl, subst, arith}
use Rattle.mdl_calls.specs.Words.{Runs}
use Rattle.mdl_work.specs.Works.{waiting_out}
use Rattle.mdl_work.proofs.WorkLemmas.{looked-over, looked-pending, patience-over}
use Rattle.mdl_work.proofs.waiting.wait_out.Goals as goal

pub returns-in-Ok-Settled : goal.returns-in-Ok-Settled
returns-in-Ok-Settled g c =
    let joins = g.S.LockSpace.joins in
    let fewer : suc (c.args.patience - (c.loop-poll._poll + 1)) ≡ c.args.patience - c.loop-poll._poll = omega (arith, c.loop-poll-test.true) in
    c.loop-poll.invariant.run _
    (subst (λ (n : ℕ). Runs joins c.loop-poll.space (waiting_out c.args.who n) tt c.poll_wait.new.self) fewer
    (looked-over joins c.args.who _ _ _ _ (λ more. refl) (rw (c.in-Ok-Settled.is, c.in-Ok-Settled.field-0-is) at c.poll_wait.ensures)))

pub returns-in-Err : goal.returns-in-Err
returns-in-Err g c =
    let joins = g.S.LockSpace.joins in
    let fewer : suc (c.args.patience - (c.loop-poll._poll + 1)) ≡ c.args.patience - c.loop-poll._poll = omega (arith, c.loop-poll-test.true) in
    c.loop-poll.invariant.run _
    (subst (λ (n : ℕ). Runs joins c.loop-poll.space (waiting_out c.args.who n) tt c.poll_wait.new.self) fewer
    (looked-over joins c.args.who _ _ _ _ (λ more. refl) (rw c.in-Err.is at c.poll_wait.ensures)))

pub loop-poll-preserved : goal.loop-poll-preserved
loop-poll-preserved g c =
    let joins = g.S.LockSpace.joins in
    let fewer : suc (c.args.patience - (c.loop-poll._poll + 1)) ≡ c.args.patience - c.loop-poll._poll = omega (arith, c.loop-poll-test.true) in
    record {
      speaks = g.met.S.LockSpace.laws.keeps _ _ _ _ _ c.loop-poll.invariant.speaks c.poll_wait.ensures;
      run = λ b rest. c.loop-poll.invariant.run b
          (subst (λ (n : ℕ). Runs joins c.loop-poll.space (waiting_out c.args.who n) tt b) fewer
          (looked-pending joins c.args.who _ _ _ b (rw (c.in-Ok-Pending.is, c.in-Ok-Pending.field-0-is) at c.poll_wait.ensures) rest));
    }

pub returns : goal.returns
returns g c =
    let joins = g.S.LockSpace.joins in
    let none : zero ≡ c.args.patience - c.loop-poll._poll = omega (arith, c.loop-poll-test.false) in
    c.loop-poll.invariant.run _
    (subst (λ (n : ℕ). Runs joins c.loop-poll.space (waiting_out c.args.who n) tt c.settle_timeout-settled.new.self) none
    (patience-over joins c.args.who _ _ _ c.settle_timeout-settled.ensures))
