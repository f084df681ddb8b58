-- The space speaks for the session.
use Rattle.std.proofs.Common.{arith}
use Rattle.mdl_space_trials.proofs.room.Room.held.Goals as goal

pub held-requires : goal.held-requires
held-requires c = c.self.invariant _ (omega arith) (omega arith)
