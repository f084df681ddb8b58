-- By its lemma.
use Rattle.mdl_session_laws.proofs.WaitLaws.{session-agrees}
use Rattle.mdl_session_laws.proofs.waits.settled_waits_are_told_so.Goals as goal

pub returns : goal.returns
returns c = session-agrees
