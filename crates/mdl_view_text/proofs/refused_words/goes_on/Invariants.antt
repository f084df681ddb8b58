-- None of those before is a way to go on.
use Rattle.std.proofs.Common.{◌≡◌, drop}
use Rattle.std.specs.List.{list_any}
use Rattle.mdl_view_text.specs.Explanations.{goes_on_with}
use Rattle.mdl_view_text.proofs.refused_words.goes_on.Given as goal

abbrev pub invariant-loop-ending : goal.invariant-loop-ending
invariant-loop-ending l =
    list_any (λ ending. goes_on_with l.line ending.now) (drop l.ending-index l.endings) ≡ list_any (λ ending. goes_on_with l.line ending.now) l.endings
