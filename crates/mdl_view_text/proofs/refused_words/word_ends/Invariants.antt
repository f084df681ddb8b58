-- The ends so far.
use Rattle.std.proofs.Common.{◌≡◌, filter}
use Rattle.std.specs.List.{range_with_len}
use Rattle.mdl_view_text.specs.Explanations.{ends_word}
use Rattle.mdl_view_text.proofs.refused_words.word_ends.Given as goal

abbrev pub invariant-loop-place : goal.invariant-loop-place
invariant-loop-place l = l.ends.items ≡ filter (ends_word l.line) (range_with_len 1 l.place)
