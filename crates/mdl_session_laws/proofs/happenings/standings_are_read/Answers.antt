-- By its lemma.
use Rattle.mdl_session_laws.proofs.CallsHappen.{standings-read}
use Rattle.mdl_session_laws.proofs.happenings.standings_are_read.Goals as goal

pub returns : goal.returns
returns c = standings-read
