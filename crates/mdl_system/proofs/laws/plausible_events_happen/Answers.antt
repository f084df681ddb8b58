-- By its lemma.
use Rattle.mdl_system.proofs.SmallSystems.{possible}
use Rattle.mdl_system.proofs.laws.plausible_events_happen.Goals as goal

pub returns : goal.returns
returns g c = possible
