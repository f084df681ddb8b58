-- By its lemma.
use Rattle.mdl_steps_laws.proofs.FastRests.{reading_unlatched_rests}
use Rattle.mdl_steps_laws.proofs.fast_path.reading_unlatched_rests.Goals as goal

pub returns : goal.returns
returns c = reading_unlatched_rests
