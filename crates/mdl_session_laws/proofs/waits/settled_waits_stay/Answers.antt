-- By its lemma.
use Rattle.mdl_session_laws.proofs.WaitLaws.{session-stays}
use Rattle.mdl_session_laws.proofs.waits.settled_waits_stay.Goals as goal

pub returns : goal.returns
returns c = session-stays
