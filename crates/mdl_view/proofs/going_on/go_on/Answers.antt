-- One lock after the other.
use Rattle.std.proofs.Common.{◌∙◌}
use Rattle.mdl_view.specs.SessionSets.{has, taken_by}
use Rattle.mdl_view.proofs.TurnLemmas.{proceeds_next}
use Rattle.mdl_view.proofs.going_on.go_on.Goals as goal

pub loop-lock-preserved : goal.loop-lock-preserved
loop-lock-preserved c = record {
  value = proceeds_next (taken_by c.args.act) c.args.locks.now c.loop-lock.lock-index c.lock-item.result (has c.args.ended.now) (has c.loop-lock.ended)
      (has c.go_on_at.new.ended) c.loop-lock.some c.in_ok-here.here c.loop-lock-test.true c.lock-item.is c.loop-lock.invariant.value c.in_ok-here.ensures.value;
  rest = c.go_on_at.ensures.rest ∙ c.loop-lock.invariant.rest;
}
