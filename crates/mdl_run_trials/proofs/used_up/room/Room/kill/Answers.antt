-- The session of statements is served as before.
use Rattle.mdl_run_trials.proofs.used_up.RoomLemmas.{other_then}
use Rattle.mdl_run_trials.proofs.used_up.room.Room.kill.Goals as goal

pub invariant_of-self : goal.invariant_of-self
invariant_of-self c = other_then _ _ _ _ c.self.invariant c.kill.ensures.speaks c.kill.ensures.others
