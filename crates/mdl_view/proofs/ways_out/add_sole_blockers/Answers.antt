-- One waiting ticket after the other.
use Rattle.std.proofs.Common.{◌∙◌}
use Rattle.mdl_view.specs.Passes.{is_alone_before}
use Rattle.mdl_view.specs.SessionSets.{has}
use Rattle.mdl_view.proofs.AgainstLemmas.{found_more}
use Rattle.mdl_view.proofs.ways_out.add_sole_blockers.Goals as goal

pub loop-ask-preserved : goal.loop-ask-preserved
loop-ask-preserved c = record {
  known = c.add_sole_blocker.ensures.known;
  put = λ session.
      found_more (is_alone_before c.args.lock.now session) c.args.lock.now.waiting c.waiting-ask-items.result.now c.loop-ask.ask-index _
      (has c.loop-ask.found session) (has c.add_sole_blocker.new.found session) (has c.args.found.now session)
      c.waiting-ask-items.ensures c.loop-ask-test.true (c.loop-ask.invariant.put session) (c.in_ok-add_sole_blocker.ensures.put session);
  rest = c.in_ok-add_sole_blocker.ensures.rest ∙ c.loop-ask.invariant.rest;
}
