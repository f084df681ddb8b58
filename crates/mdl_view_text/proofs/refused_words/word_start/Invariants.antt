-- Up to here the word goes back.
use Rattle.std.proofs.Common.{◌≡◌, ◌-◌}
use Rattle.mdl_view_text.specs.Explanations.{word_start}
use Rattle.mdl_view_text.proofs.refused_words.word_start.Given as goal

abbrev pub invariant-loop-back : goal.invariant-loop-back
invariant-loop-back l = word_start l.line (l.end - l.back) ≡ word_start l.line l.end
