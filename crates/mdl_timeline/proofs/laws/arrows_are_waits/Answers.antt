-- Turn by turn.
use Rattle.mdl_timeline.specs.TimelineLaws.{HasArrowsOf}
use Rattle.mdl_timeline.proofs.LawLemmas.{each-event}
use Rattle.mdl_timeline.proofs.ShownLemmas.{has-arrows}
use Rattle.mdl_timeline.proofs.laws.arrows_are_waits.Goals as goal

pub returns : goal.returns
returns c = λ text lines. each-event HasArrowsOf has-arrows lines text
