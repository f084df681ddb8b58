-- By its lemma.
use Rattle.mdl_steps_laws.proofs.RestKinds.{missing_directory_rests}
use Rattle.mdl_steps_laws.proofs.rests.missing_directory_rests.Goals as goal

pub returns : goal.returns
returns c = missing_directory_rests
