-- By its lemma.
use Rattle.mdl_system.proofs.DeadlockCauses.{debts-end}
use Rattle.mdl_system.proofs.laws.searches_end_debts.Goals as goal

pub returns : goal.returns
returns g c = debts-end
