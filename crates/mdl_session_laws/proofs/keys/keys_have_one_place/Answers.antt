-- By its lemmas.
use Rattle.mdl_session_laws.proofs.KeyLaws.{session-one_key, session-one_place}
use Rattle.mdl_session_laws.proofs.keys.keys_have_one_place.Goals as goal

pub returns : goal.returns
returns c a who place key speaks knows = ((λ other. session-one_key a who place key other speaks knows), λ other. session-one_place a who place other key speaks knows)
