-- By its lemma.
use Rattle.mdl_session_laws.proofs.CallLaws.{session-others}
use Rattle.mdl_session_laws.proofs.sessions.others_change_nothing.Goals as goal

pub returns : goal.returns
returns c = session-others
