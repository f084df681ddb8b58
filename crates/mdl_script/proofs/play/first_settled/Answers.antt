-- The first whose wait is settled is found; until then the space is the same.
use Rattle.std.proofs.Common.{sym, ◌∙◌}
use Rattle.mdl_core.specs.CoreCalls.{has_settled}
use Rattle.mdl_space.proofs.SettledLemmas.{none-settled}
use Rattle.mdl_script.proofs.ListLemmas.{find-at, find-more, find-none}
use Rattle.mdl_script.proofs.play.first_settled.Goals as goal

pub returns-then-settled_waits-eq0-clause-found : goal.returns-then-settled_waits-eq0-clause-found
returns-then-settled_waits-eq0-clause-found c =
    sym (find-none (has_settled c.args.space.now) c.args.waiting.now (none-settled c.args.space.now (sym c.settled_waits.ensures ∙ c.if-settled_waits-eq0.true)))

pub returns-then-has_settled-clause-found : goal.returns-then-has_settled-clause-found
returns-then-has_settled-clause-found c =
    sym (find-at (has_settled c.args.space.now) c.args.waiting.now c.loop-who.who-index 0 c.loop-who-test.true c.loop-who.invariant.none
    (rw (← c.loop-who.invariant.same) (sym c.has_settled.ensures.settled ∙ c.if-has_settled.true)))

pub loop-who-preserved : goal.loop-who-preserved
loop-who-preserved c = record {
  none = find-more (has_settled c.args.space.now) c.args.waiting.now c.loop-who.who-index 0 c.loop-who-test.true c.loop-who.invariant.none
      (rw (← c.loop-who.invariant.same) (sym c.has_settled.ensures.settled ∙ c.if-has_settled.false));
  same = c.has_settled.ensures.same ∙ c.loop-who.invariant.same;
}
