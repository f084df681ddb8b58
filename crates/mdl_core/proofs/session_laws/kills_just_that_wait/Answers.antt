-- By its lemma.
use Rattle.mdl_core.proofs.SessionWaits.{kills-just}
use Rattle.mdl_core.proofs.session_laws.kills_just_that_wait.Goals as goal

pub returns : goal.returns
returns c = kills-just
