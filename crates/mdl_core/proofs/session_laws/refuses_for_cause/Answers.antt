-- By its lemma.
use Rattle.mdl_core.proofs.CallLaws.{refuses-caused}
use Rattle.mdl_core.proofs.session_laws.refuses_for_cause.Goals as goal

pub returns : goal.returns
returns c = refuses-caused
