-- A timeout takes nothing from the session.
use Rattle.std.proofs.Common.{ℕ, refl, subst, sym}
use Rattle.mdl.specs.mdl_calls.Words.{Settle_timeout, timed_out}
use Rattle.mdl.proofs.mdl_calls.CacheLemmas.{still-met}
use Rattle.mdl.proofs.mdl_context.AttendLemmas.{attends-still}
use Rattle.mdl_threaded_server_example.proofs.work.wait_out.Goals as goal

pub settle_timeout-settled-requires : goal.settle_timeout-settled-requires
settle_timeout-settled-requires g c =
    let kept = c.loop-poll.invariant in
    subst (λ (w : ℕ). g.S.LockSpace.speaks_for c.loop-poll.space w) kept.who kept.attends.attends.speaks

pub go_on-requires-2-clause-attends : goal.go_on-requires-2-clause-attends
go_on-requires-2-clause-attends g c =
    let laws = g.met.S.LockSpace.laws in
    let kept = c.loop-poll.invariant in
    let step = subst (λ (w : ℕ). g.S.LockSpace.joins c.loop-poll.space (Settle_timeout w) (timed_out c.settle_timeout-settled.result) c.settle_timeout-settled.new.self) (sym kept.who) c.settle_timeout-settled.ensures in
    record {
      attends = attends-still g.S.LockSpace laws _ _ _ _ c.loop-poll.runner.context kept.attends.attends refl refl refl step;
      met = still-met (g.S.LockSpace.has_met c.loop-poll.space c.loop-poll.runner.context.who) (g.S.LockSpace.has_met c.settle_timeout-settled.new.self c.loop-poll.runner.context.who) c.loop-poll.runner.cache.kept
          (λ place standing there. laws.met_stays _ _ _ _ _ place standing kept.attends.attends.speaks step there) kept.attends.met;
    }
