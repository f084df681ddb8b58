-- One lock after the other.
use Rattle.std.proofs.Common.{◌∙◌, false}
use Rattle.mdl_view.specs.Passes.{frees_at}
use Rattle.mdl_view.specs.SessionSets.{has}
use Rattle.mdl_view.proofs.AgainstLemmas.{found_next}
use Rattle.mdl_view.proofs.ways_out.sole_blockers.Goals as goal

pub loop-lock-preserved : goal.loop-lock-preserved
loop-lock-preserved c = record {
  some = λ session.
      found_next (frees_at session) c.args.locks.now c.loop-lock.lock-index c.lock-item.result (has c.loop-lock.found session)
      (has c.add_sole_blockers.new.found session) false c.loop-lock-test.true c.lock-item.is (c.loop-lock.invariant.some session)
      (c.in_ok-add_sole_blockers.ensures.put session);
  rest = c.in_ok-add_sole_blockers.ensures.rest ∙ c.loop-lock.invariant.rest;
}
