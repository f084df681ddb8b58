-- By its lemma.
use Rattle.mdl_core.proofs.SessionHas.{sessions-have}
use Rattle.mdl_core.proofs.session_laws.sessions_have_what_the_system_says.Goals as goal

pub returns : goal.returns
returns c = sessions-have
