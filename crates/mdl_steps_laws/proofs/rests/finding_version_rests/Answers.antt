-- By its lemma.
use Rattle.mdl_steps_laws.proofs.RestKinds.{finding_version_rests}
use Rattle.mdl_steps_laws.proofs.rests.finding_version_rests.Goals as goal

pub returns : goal.returns
returns c = finding_version_rests
