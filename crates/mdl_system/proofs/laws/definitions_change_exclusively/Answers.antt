-- By its lemma.
use Rattle.mdl_system.proofs.HeldLemmas.{defined-exclusively}
use Rattle.mdl_system.proofs.laws.definitions_change_exclusively.Goals as goal

pub returns : goal.returns
returns g c = defined-exclusively
