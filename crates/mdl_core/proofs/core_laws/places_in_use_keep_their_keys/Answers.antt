-- By its lemma.
use Rattle.mdl_core.proofs.PlacesKept.{keys-stay}
use Rattle.mdl_core.proofs.core_laws.places_in_use_keep_their_keys.Goals as goal

pub returns : goal.returns
returns c = keys-stay
