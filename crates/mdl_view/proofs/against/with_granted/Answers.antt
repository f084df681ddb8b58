-- One more ticket is noted at each turn.
use Rattle.mdl_view.specs.GoingOn.{is_gone}
use Rattle.mdl_view.specs.SessionSets.{has, holds_apart, taken_by}
use Rattle.mdl_view.proofs.AgainstLemmas.{noted_all, noted_more}
use Rattle.mdl_view.proofs.against.with_granted.Goals as goal

pub loop-held-preserved : goal.loop-held-preserved
loop-held-preserved c = record {
  sorted_out = c.with_held-noted.ensures.few;
  apart = λ one other.
      noted_more (holds_apart c.args.lock.now (is_gone (taken_by c.args.act) (has c.args.ended.now)) c.args.mode one other)
      c.args.lock.now.granted c.granted-held-items.result.now c.loop-held.held-index _ _ _ _
      c.granted-held-items.ensures c.loop-held-test.true (c.loop-held.invariant.apart one other) (c.with_held-noted.ensures.apart one other);
}

pub returns-clause-apart : goal.returns-clause-apart
returns-clause-apart c = λ one other.
    noted_all (holds_apart c.args.lock.now (is_gone (taken_by c.args.act) (has c.args.ended.now)) c.args.mode one other)
    c.args.lock.now.granted c.granted-held-items.result.now c.loop-held.held-index _ _
    c.granted-held-items.ensures c.loop-held-test.false (c.loop-held.invariant.apart one other)
