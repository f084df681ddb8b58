-- The first bad word is not before this place.
use Rattle.std.proofs.Common.{◌≡◌, ◌+◌, drop}
use Rattle.mdl_view_text.specs.Explanations.{first_bad_word}
use Rattle.mdl_view_text.proofs.refused_words.first_bad_word.Given as goal

abbrev pub invariant-loop-place : goal.invariant-loop-place
invariant-loop-place l = first_bad_word l.line (l.place + 1) (drop l.place l.ends) ≡ first_bad_word l.line 1 l.ends
