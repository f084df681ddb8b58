-- By its lemma.
use Rattle.mdl_core.proofs.PlacesKept.{places-follow}
use Rattle.mdl_core.proofs.core_laws.places_pins_and_numbers_follow.Goals as goal

pub returns : goal.returns
returns c = places-follow
