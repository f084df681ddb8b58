-- By its lemma.
use Rattle.mdl_steps_laws.proofs.Unseen.{no_deadlock_is_unseen}
use Rattle.mdl_steps_laws.proofs.cares.no_deadlock_is_unseen.Goals as goal

pub returns : goal.returns
returns c = no_deadlock_is_unseen
