-- By its lemma.
use Rattle.mdl_steps_laws.proofs.RestKinds.{putting_searched_rests}
use Rattle.mdl_steps_laws.proofs.rests.putting_searched_rests.Goals as goal

pub returns : goal.returns
returns c = putting_searched_rests
