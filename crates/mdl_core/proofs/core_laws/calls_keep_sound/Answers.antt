-- By its lemma.
use Rattle.mdl_core.proofs.CoreSound.{calls_keep-sound}
use Rattle.mdl_core.proofs.core_laws.calls_keep_sound.Goals as goal

pub returns : goal.returns
returns c = calls_keep-sound
