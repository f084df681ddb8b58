-- By its lemma.
use Rattle.mdl_system.proofs.ConcernLemmas.{step-forgets}
use Rattle.mdl_system.proofs.laws.nobody_forgotten_unless_freed.Goals as goal

pub returns : goal.returns
returns g c = step-forgets
