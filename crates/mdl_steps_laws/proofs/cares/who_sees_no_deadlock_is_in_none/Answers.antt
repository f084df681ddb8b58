-- By its lemma.
use Rattle.mdl_steps_laws.proofs.Sights.{who_sees_no_deadlock_is_in_none}
use Rattle.mdl_steps_laws.proofs.cares.who_sees_no_deadlock_is_in_none.Goals as goal

pub returns : goal.returns
returns c = who_sees_no_deadlock_is_in_none
