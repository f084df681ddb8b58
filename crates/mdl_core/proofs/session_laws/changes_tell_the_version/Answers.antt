-- By its lemma.
use Rattle.mdl_core.proofs.CoreStandings.{changes-tell}
use Rattle.mdl_core.proofs.session_laws.changes_tell_the_version.Goals as goal

pub returns : goal.returns
returns c = changes-tell
