-- The other session is served as before.
use Rattle.mdl_run_trials.proofs.used_up.RoomLemmas.{first_then}
use Rattle.mdl_run_trials.proofs.used_up.room.Room.start.Goals as goal

pub invariant_of-self : goal.invariant_of-self
invariant_of-self c = first_then _ _ _ _ _ _ c.self.invariant c.start.ensures.who c.start.ensures.attends c.start.ensures.others
