-- What was put there, and the explanations of the lines that are left.
use Rattle.std.proofs.Common.{◌≡◌, ◌++◌, drop}
use Rattle.std.specs.List.{flat_map}
use Rattle.mdl_explain.specs.Explanations.{explanation}
use Rattle.mdl_explain.proofs.explaining.push_lines.Given as goal

abbrev pub invariant-loop-line : goal.invariant-loop-line
invariant-loop-line l = l.out.items ++ flat_map explanation (drop l.line-index l.lines) ≡ l.fn.out.items ++ flat_map explanation l.lines
