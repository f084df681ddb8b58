-- By its lemma.
use Rattle.mdl_core.proofs.CoreSound.{calls_lead-by_events}
use Rattle.mdl_core.proofs.core_laws.calls_lead_by_events.Goals as goal

pub returns : goal.returns
returns c = calls_lead-by_events
