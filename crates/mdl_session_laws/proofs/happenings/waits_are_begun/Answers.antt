-- By its lemma.
use Rattle.mdl_session_laws.proofs.CallsHappen.{waits-begun}
use Rattle.mdl_session_laws.proofs.happenings.waits_are_begun.Goals as goal

pub returns : goal.returns
returns c = waits-begun
