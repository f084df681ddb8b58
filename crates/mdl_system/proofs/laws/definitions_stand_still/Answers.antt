-- By its lemma.
use Rattle.mdl_system.proofs.HeldLemmas.{stands-still}
use Rattle.mdl_system.proofs.laws.definitions_stand_still.Goals as goal

pub returns : goal.returns
returns g c = stands-still
