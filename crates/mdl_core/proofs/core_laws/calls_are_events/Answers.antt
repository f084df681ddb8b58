-- By its lemma.
use Rattle.mdl_core.proofs.CoreSound.{calls_are-events}
use Rattle.mdl_core.proofs.core_laws.calls_are_events.Goals as goal

pub returns : goal.returns
returns c = calls_are-events
