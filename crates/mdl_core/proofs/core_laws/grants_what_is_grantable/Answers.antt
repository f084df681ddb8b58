-- By its lemma.
use Rattle.mdl_core.proofs.CoreSound.{grants-grantable}
use Rattle.mdl_core.proofs.core_laws.grants_what_is_grantable.Goals as goal

pub returns : goal.returns
returns c = grants-grantable
