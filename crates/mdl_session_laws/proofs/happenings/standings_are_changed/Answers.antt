-- By its lemma.
use Rattle.mdl_session_laws.proofs.CallsHappen.{standings-changed}
use Rattle.mdl_session_laws.proofs.happenings.standings_are_changed.Goals as goal

pub returns : goal.returns
returns c = standings-changed
