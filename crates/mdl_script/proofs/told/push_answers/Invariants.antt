-- The answers so far are written.
use Rattle.std.proofs.Common.{◌≡◌, ◌++◌, take}
use Rattle.std.specs.String.{string_bytes}
use Rattle.mdl_script.specs.RunTexts.{answers_text}
use Rattle.mdl_script.proofs.told.push_answers.Given as goal

abbrev pub invariant-loop-line : goal.invariant-loop-line
invariant-loop-line l = string_bytes l.out ≡ string_bytes l.fn.out ++ answers_text l.who (take l.line-index l.answers)
