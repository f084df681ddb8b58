-- By its lemma.
use Rattle.mdl_session_laws.proofs.KeptSound.{begins-sound}
use Rattle.mdl_session_laws.proofs.sessions.sessions_begin_sound.Goals as goal

pub returns : goal.returns
returns c = begins-sound
