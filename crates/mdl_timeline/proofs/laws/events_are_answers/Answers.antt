-- Line by line.
use Rattle.mdl_script.specs.Worlds.{first_world}
use Rattle.mdl_timeline.proofs.LawLemmas.{shown-all}
use Rattle.mdl_timeline.proofs.laws.events_are_answers.Goals as goal

pub returns : goal.returns
returns c = λ text lines. shown-all text lines first_world
