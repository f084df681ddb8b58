-- The words so far are written.
use Rattle.std.proofs.Common.{◌≡◌, ◌++◌, take, flat_map, map}
use Rattle.std.specs.Prelude.{codes}
use Rattle.mdl_timeline.proofs.statements.push_behind_blanks.Given as goal

abbrev pub invariant-loop-word : goal.invariant-loop-word
invariant-loop-word l = l.out.items ≡ l.fn.out.items ++ flat_map (λ word. codes " " ++ word) (map (λ word. word.now) (take l.word-index l.words))
