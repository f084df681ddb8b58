-- By its lemma.
use Rattle.mdl_session_laws.proofs.CallLaws.{session-rising}
use Rattle.mdl_session_laws.proofs.sessions.numbers_rise.Goals as goal

pub returns : goal.returns
returns c = session-rising
