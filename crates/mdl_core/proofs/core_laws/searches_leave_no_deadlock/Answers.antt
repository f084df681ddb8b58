-- By its lemma.
use Rattle.mdl_core.proofs.CoreSound.{calls_keep-sound}
use Rattle.mdl_core.proofs.SearchRuns.{searches-leave}
use Rattle.mdl_core.proofs.core_laws.searches_leave_no_deadlock.Goals as goal

pub returns : goal.returns
returns c = searches-leave calls_keep-sound
