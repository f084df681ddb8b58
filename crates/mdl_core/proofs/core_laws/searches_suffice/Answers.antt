-- By its lemma.
use Rattle.mdl_core.proofs.CoreSound.{calls_keep-sound}
use Rattle.mdl_core.proofs.SearchRuns.{searches-suffice}
use Rattle.mdl_core.proofs.core_laws.searches_suffice.Goals as goal

pub returns : goal.returns
returns c = searches-suffice calls_keep-sound
