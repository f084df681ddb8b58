-- By its lemma.
use Rattle.mdl_session_laws.proofs.CallsHappen.{waits-lost}
use Rattle.mdl_session_laws.proofs.happenings.waits_are_lost.Goals as goal

pub returns : goal.returns
returns c = waits-lost
