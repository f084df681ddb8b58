-- By its lemma.
use Rattle.mdl_session_laws.proofs.CallsHappen.{keys-found}
use Rattle.mdl_session_laws.proofs.happenings.keys_are_found.Goals as goal

pub returns : goal.returns
returns c = keys-found
