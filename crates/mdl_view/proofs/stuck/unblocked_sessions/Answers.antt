-- One lock after the other.
use Rattle.std.proofs.Common.{true}
use Rattle.mdl_view.specs.Blockings.{is_blocked_here}
use Rattle.mdl_view.specs.SessionSets.{has}
use Rattle.mdl_view.proofs.AgainstLemmas.{left_next}
use Rattle.mdl_view.proofs.stuck.unblocked_sessions.Goals as goal

pub loop-lock-preserved : goal.loop-lock-preserved
loop-lock-preserved c = λ session.
    left_next (is_blocked_here session) c.args.locks.now c.loop-lock.lock-index c.lock-item.result (has c.loop-lock.found session)
    (has c.remove_blocked_at.new.found session) true c.loop-lock-test.true c.lock-item.is (c.loop-lock.invariant session)
    (c.in_ok-remove_blocked_at.ensures session)
