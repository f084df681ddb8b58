-- By its lemma.
use Rattle.mdl_system.proofs.HeldAfter.{held-after}
use Rattle.mdl_system.proofs.laws.events_change_held.Goals as goal

pub returns : goal.returns
returns g c = held-after
