-- The other session is served as before.
use Rattle.mdl_run_trials.proofs.used_up.RoomLemmas.{first_then}
use Rattle.mdl_run_trials.proofs.used_up.room.Room.go_on.Goals as goal

pub invariant_of-self : goal.invariant_of-self
invariant_of-self c = first_then _ _ _ _ _ _ c.self.invariant c.go_on.ensures.who c.go_on.ensures.attends c.go_on.ensures.others
