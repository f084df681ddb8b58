-- By its lemma.
use Rattle.mdl_steps_laws.proofs.FastRests.{materialising_rests}
use Rattle.mdl_steps_laws.proofs.fast_path.materialising_rests.Goals as goal

pub returns : goal.returns
returns c = materialising_rests
