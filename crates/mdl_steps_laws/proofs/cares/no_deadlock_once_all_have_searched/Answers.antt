-- By its lemma.
use Rattle.mdl_steps_laws.proofs.Unseen.{no_deadlock_once_all_have_searched}
use Rattle.mdl_steps_laws.proofs.cares.no_deadlock_once_all_have_searched.Goals as goal

pub returns : goal.returns
returns c = no_deadlock_once_all_have_searched
