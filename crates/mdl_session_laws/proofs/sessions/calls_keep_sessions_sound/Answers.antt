-- By its lemma.
use Rattle.mdl_session_laws.proofs.KeptSound.{keeps-sound}
use Rattle.mdl_session_laws.proofs.sessions.calls_keep_sessions_sound.Goals as goal

pub returns : goal.returns
returns c = keeps-sound
