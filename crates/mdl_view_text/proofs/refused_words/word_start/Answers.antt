-- It goes back to the last blank.
use Rattle.std.proofs.Common.{◌∙◌, ap, sym}
use Rattle.mdl_lines.specs.Words.{is_blank}
use Rattle.mdl_view_text.proofs.WordLemmas.{came_before, first_starts, starts_here}
use Rattle.mdl_view_text.proofs.refused_words.word_start.Goals as goal

pub returns-then-is_blank : goal.returns-then-is_blank
returns-then-is_blank c =
    starts_here c.args.line.now c.args.end c.loop-back.back c.loop-back-test.true
    (ap is_blank (sym c.byte_at.ensures) ∙ sym c.is_blank.ensures ∙ c.if-is_blank.true) c.loop-back.invariant

pub loop-back-preserved : goal.loop-back-preserved
loop-back-preserved c =
    came_before c.args.line.now c.args.end c.loop-back.back c.loop-back-test.true
    (ap is_blank (sym c.byte_at.ensures) ∙ sym c.is_blank.ensures ∙ c.if-is_blank.false) c.loop-back.invariant

pub returns : goal.returns
returns c = first_starts c.args.line.now c.args.end c.loop-back.back c.loop-back-test.false c.loop-back.invariant
