-- Step by step.
use Rattle.mdl_explain.proofs.LawLemmas.{steps_are_lines}
use Rattle.mdl_explain.proofs.laws.steps_are_lines.Goals as goal

pub returns : goal.returns
returns c = steps_are_lines
