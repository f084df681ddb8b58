-- By its lemma.
use Rattle.mdl_session_laws.proofs.ReadLaws.{session-stands}
use Rattle.mdl_session_laws.proofs.reads.what_is_read_stands.Goals as goal

pub returns : goal.returns
returns c = session-stands
