-- By its lemma.
use Rattle.mdl_system.proofs.NextSystems.{happens-where_permitted}
use Rattle.mdl_system.proofs.laws.events_happen_where_permitted.Goals as goal

pub returns : goal.returns
returns g c = happens-where_permitted
