-- What was put there, and the words that are left.
use Rattle.std.proofs.Common.{◌≡◌, ◌++◌, drop, map}
use Rattle.mdlsim.specs.CommandLine.{line_text}
use Rattle.mdlsim.proofs.explaining.text_of.Given as goal

abbrev pub invariant-loop-word : goal.invariant-loop-word
invariant-loop-word g l = l.text.items ++ line_text (map g.S.AsStr.text (drop l.word-index l.line)) ≡ line_text (map g.S.AsStr.text l.line)
