-- The space speaks for each session.
use Rattle.std.proofs.Common.{arith}
use Rattle.mdl_space_trials.proofs.contexts.HallLemmas.{speaks_for_each}
use Rattle.mdl_space_trials.proofs.hall.hold_the_same.Goals as goal

pub held-requires : goal.held-requires
held-requires c = speaks_for_each c.args.space.now _ c.args.contexts.now c.requires.served (omega arith) (omega arith)
