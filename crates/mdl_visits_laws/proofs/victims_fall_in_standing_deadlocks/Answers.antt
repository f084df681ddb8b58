-- By its lemma.
use Rattle.mdl_visits_laws.proofs.Victims.{victims_fall_in_standing_deadlocks}
use Rattle.mdl_visits_laws.proofs.victims_fall_in_standing_deadlocks.Goals as goal

pub returns : goal.returns
returns c = victims_fall_in_standing_deadlocks
