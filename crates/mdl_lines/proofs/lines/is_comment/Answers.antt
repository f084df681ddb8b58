use Rattle.std.proofs.Common.{arith}
use Rattle.std.proofs.lemmas.Grind.{common_steps}
use Rattle.mdl_lines.proofs.Ascii.{no_high_byte}
use Rattle.mdl_lines.proofs.lines.is_comment.Goals as goal

pub returns-in-35 : goal.returns-in-35
returns-in-35 c =
    let low = no_high_byte c.args.line.now c.if-not-is_ascii.ensures.cases in
    grind (arith, common_steps)

pub returns-in_default : goal.returns-in_default
returns-in_default c =
    let low = no_high_byte c.args.line.now c.if-not-is_ascii.ensures.cases in
    grind (arith, common_steps)

pub returns-in_default-2 : goal.returns-in_default-2
returns-in_default-2 c =
    let low = no_high_byte c.args.line.now c.if-not-is_ascii.ensures.cases in
    grind (arith, common_steps)
