-- Proved of the definitions.
use Rattle.mdl_view.proofs.GrantedLemmas.{granted_go_on as law}
use Rattle.mdl_view.proofs.way_laws.granted_go_on.Goals as goal

pub returns : goal.returns
returns c = law
