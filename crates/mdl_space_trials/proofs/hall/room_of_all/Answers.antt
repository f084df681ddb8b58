-- The space speaks for the session of each context.
use Rattle.std.proofs.Common.{arith}
use Rattle.mdl_space_trials.proofs.contexts.HallLemmas.{speaks_for_each}
use Rattle.mdl_space_trials.proofs.hall.room_of_all.Goals as goal

pub over-requires : goal.over-requires
over-requires c = λ who least most. speaks_for_each c.args.space who c.args.contexts.now c.requires.served least (omega (arith, c.requires.all, most))
