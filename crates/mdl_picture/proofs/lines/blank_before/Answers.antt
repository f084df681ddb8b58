-- It goes back to a blank.
use Rattle.std.proofs.Common.{◌-◌, refl}
use Rattle.mdl_picture.proofs.TextLemmas.{blank_here, no_blank, no_blank_here}
use Rattle.mdl_picture.proofs.lines.blank_before.Goals as goal

pub returns-then-text-place-eq32-clause-place : goal.returns-then-text-place-eq32-clause-place
returns-then-text-place-eq32-clause-place c =
    blank_here c.args.text.now c.args.end c.loop-back.back (c.args.end - c.loop-back.back - 1) c.loop-back-test.true refl c.if-text-place-eq32.true
    c.loop-back.invariant

pub loop-back-preserved : goal.loop-back-preserved
loop-back-preserved c =
    no_blank_here c.args.text.now c.args.end c.loop-back.back (c.args.end - c.loop-back.back - 1) c.loop-back-test.true refl c.if-text-place-eq32.false
    c.loop-back.invariant

pub returns-clause-place : goal.returns-clause-place
returns-clause-place c = no_blank c.args.text.now c.args.end c.loop-back.back c.loop-back-test.false c.loop-back.invariant
