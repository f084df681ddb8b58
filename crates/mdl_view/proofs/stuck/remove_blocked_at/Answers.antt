-- One waiting ticket after the other.
use Rattle.std.proofs.Common.{◌&&◌}
use Rattle.std.specs.Prelude.{◌==◌}
use Rattle.mdl_view.specs.Blockings.{is_blocked}
use Rattle.mdl_view.specs.SessionSets.{has}
use Rattle.mdl_view.proofs.AgainstLemmas.{left_more}
use Rattle.mdl_view.proofs.stuck.remove_blocked_at.Goals as goal

pub loop-ask-preserved : goal.loop-ask-preserved
loop-ask-preserved c = record {
  known = c.remove_blocked.ensures.known;
  left = λ session.
      left_more (λ ask. (ask.session == session) && is_blocked c.args.lock.now ask) c.args.lock.now.waiting c.waiting-ask-items.result.now c.loop-ask.ask-index _
      (has c.loop-ask.found session) (has c.remove_blocked.new.found session) (has c.args.found.now session)
      c.waiting-ask-items.ensures c.loop-ask-test.true (c.loop-ask.invariant.left session) (c.in_ok-remove_blocked.ensures.removed session);
}
