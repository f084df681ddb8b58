-- One more ticket is noted at each turn.
use Rattle.mdl_view.specs.GoingOn.{is_gone}
use Rattle.mdl_view.specs.SessionSets.{has, waits_apart, taken_by}
use Rattle.mdl_view.proofs.AgainstLemmas.{noted_all, noted_more}
use Rattle.mdl_view.proofs.against.with_waiting.Goals as goal

pub loop-pending-preserved : goal.loop-pending-preserved
loop-pending-preserved c = record {
  sorted_out = c.with_pending-noted.ensures.few;
  apart = λ one other.
      noted_more (waits_apart c.args.lock.now (is_gone (taken_by c.args.act) (has c.args.ended.now)) c.args.mode one other)
      c.args.lock.now.waiting c.waiting-pending-items.result.now c.loop-pending.pending-index _ _ _ _
      c.waiting-pending-items.ensures c.loop-pending-test.true (c.loop-pending.invariant.apart one other) (c.with_pending-noted.ensures.apart one other);
}

pub returns-clause-apart : goal.returns-clause-apart
returns-clause-apart c = λ one other.
    noted_all (waits_apart c.args.lock.now (is_gone (taken_by c.args.act) (has c.args.ended.now)) c.args.mode one other)
    c.args.lock.now.waiting c.waiting-pending-items.result.now c.loop-pending.pending-index _ _
    c.waiting-pending-items.ensures c.loop-pending-test.false (c.loop-pending.invariant.apart one other)
