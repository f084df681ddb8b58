-- Turn by turn.
use Rattle.mdl_timeline.specs.TimelineLaws.{HoldsThoseOf}
use Rattle.mdl_timeline.proofs.LawLemmas.{each-event}
use Rattle.mdl_timeline.proofs.ShownLemmas.{holds}
use Rattle.mdl_timeline.proofs.laws.held_locks_are_granted.Goals as goal

pub returns : goal.returns
returns c = λ text lines. each-event HoldsThoseOf holds lines text
