-- By its lemma.
use Rattle.mdl_core.proofs.CoreStandings.{reads-tell}
use Rattle.mdl_core.proofs.session_laws.reads_tell_what_stands.Goals as goal

pub returns : goal.returns
returns c = reads-tell
