-- It goes back to where a character begins.
use Rattle.std.proofs.Common.{◌∙◌, sym}
use Rattle.mdl_view_text.proofs.LayoutLemmas.{back_at_start, begins_here, went_back}
use Rattle.mdl_view_text.proofs.layout.begin_of_character.Goals as goal

pub returns-then-not-goes_on-clause-place : goal.returns-then-not-goes_on-clause-place
returns-then-not-goes_on-clause-place c =
    begins_here c.args.text.now c.args.most c.loop-back.back c.loop-back-test.true (sym c.goes_on.ensures ∙ c.if-not-goes_on.true) c.loop-back.invariant

pub loop-back-preserved : goal.loop-back-preserved
loop-back-preserved c =
    went_back c.args.text.now c.args.most c.loop-back.back c.loop-back-test.true (sym c.goes_on.ensures ∙ c.if-not-goes_on.false) c.loop-back.invariant

pub returns-clause-place : goal.returns-clause-place
returns-clause-place c = back_at_start c.args.text.now c.args.most c.loop-back.back c.loop-back-test.false c.loop-back.invariant
