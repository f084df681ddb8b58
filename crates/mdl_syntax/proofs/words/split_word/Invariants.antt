use Rattle.std.proofs.Common.{◌≡◌, ◌≤◌, length}
use Rattle.mdl_lines.specs.Lines.{words_of}
use Rattle.mdl_syntax.proofs.words.split_word.Given as goal

-- what is left has all the words
abbrev pub invariant-loop-end : goal.invariant-loop-end
invariant-loop-end l = record { words : words_of l.line ≡ words_of l.left; within : length l.left ≤ length l.line }

abbrev pub decreases-loop-end : goal.decreases-loop-end
decreases-loop-end l = length l.left
