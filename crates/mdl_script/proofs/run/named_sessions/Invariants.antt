-- The sessions of the lines that were looked at.
use Rattle.std.proofs.Common.{take}
use Rattle.mdl_script.proofs.NamedLemmas.{HasNamed}
use Rattle.mdl_script.proofs.run.named_sessions.Given as goal

abbrev pub invariant-loop-line : goal.invariant-loop-line
invariant-loop-line l = HasNamed (take l.line-index l.lines) l.named
