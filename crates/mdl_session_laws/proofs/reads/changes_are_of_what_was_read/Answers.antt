-- By its lemma.
use Rattle.mdl_session_laws.proofs.ReadLaws.{session-redefines_so}
use Rattle.mdl_session_laws.proofs.reads.changes_are_of_what_was_read.Goals as goal

pub returns : goal.returns
returns c = session-redefines_so
