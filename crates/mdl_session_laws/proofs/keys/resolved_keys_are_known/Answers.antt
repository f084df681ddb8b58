-- By its lemma.
use Rattle.mdl_session_laws.proofs.KeyLaws.{session-resolves}
use Rattle.mdl_session_laws.proofs.keys.resolved_keys_are_known.Goals as goal

pub returns : goal.returns
returns c = session-resolves
