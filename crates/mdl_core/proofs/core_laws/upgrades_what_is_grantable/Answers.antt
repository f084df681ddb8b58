-- By its lemma.
use Rattle.mdl_core.proofs.CallLaws.{upgrades-grantable}
use Rattle.mdl_core.proofs.core_laws.upgrades_what_is_grantable.Goals as goal

pub returns : goal.returns
returns c = upgrades-grantable
