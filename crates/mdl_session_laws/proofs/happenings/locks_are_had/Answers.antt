-- By its lemma.
use Rattle.mdl_session_laws.proofs.CallsHappen.{locks-had}
use Rattle.mdl_session_laws.proofs.happenings.locks_are_had.Goals as goal

pub returns : goal.returns
returns c = locks-had
