-- Each known place is looked at once, in order.
use Rattle.std.proofs.Common.{◌≡◌, ◌∙◌, ◌+◌, arith, sym}
use Rattle.mdl_context.specs.Contexts.{ContextView}
use Rattle.mdl_context.specs.Holdings.{context_of}
use Rattle.mdl_context.specs.Tidying.{unneeded}
use Rattle.mdl_context.proofs.TidyLemmas.{left-same, none-left, run-over, run-spared, run-unpinned, unneeded_from}
use Rattle.mdl_context.proofs.tidying.unpin_unneeded.Goals.{then-not-is_needed, else-not-is_needed}
use Rattle.mdl_context.proofs.tidying.unpin_unneeded.Goals as goal

pub loop-at-preserved : goal.loop-at-preserved
loop-at-preserved g c =
    let joins = g.S.LockSpace.joins in
    let context : ContextView = context_of c.args.who c.args.holdings.now in
    let before = c.loop-at.invariant in
    elim c.if-not-is_needed.branch [
      | then-not-is_needed w ↦ rw (w.space-is, w.found-is) (record {
        speaks = w.unpin.ensures.speaks;
        run = λ b rest. before.run b (run-unpinned joins context c.loop-at.at _ c.loop-at.space w.unpin.new.space b c.known_place-place.ensures
            (sym (c.is_needed.ensures c.args.who) ∙ w.if-not-is_needed.true) w.unpin.ensures.run rest);
        none = λ no. absurd {A = unneeded context ≡ unneeded_from (c.loop-at.at + 1) context} (cc);
      })
      | else-not-is_needed w ↦ rw (w.space-is, w.found-is) (record {
        speaks = before.speaks;
        run = λ b rest. before.run b (run-spared joins context c.loop-at.at _ c.loop-at.space b c.known_place-place.ensures
            (sym (c.is_needed.ensures c.args.who) ∙ w.if-not-is_needed.false) rest);
        none = λ no. before.none no ∙ left-same joins context c.loop-at.at _ c.known_place-place.ensures (sym (c.is_needed.ensures c.args.who) ∙ w.if-not-is_needed.false);
      })
    ]

pub returns-clause-run : goal.returns-clause-run
returns-clause-run g c =
    let context : ContextView = context_of c.args.who c.args.holdings.now in
    c.loop-at.invariant.run _ (run-over g.S.LockSpace.joins context c.loop-at.at c.loop-at.space (omega (arith, c.loop-at-test.false, c.known_count-at-end.ensures)))

pub returns-clause-none : goal.returns-clause-none
returns-clause-none g c = λ no.
    let context : ContextView = context_of c.args.who c.args.holdings.now in
    c.loop-at.invariant.none no ∙ none-left g.S.LockSpace.joins context c.loop-at.at (omega (arith, c.loop-at-test.false, c.known_count-at-end.ensures))
