-- The space goes on to speak for the same sessions.
use Rattle.std.proofs.Common.{arith}
use Rattle.mdl_calls.specs.Words.{Tables_of}
use Rattle.mdl_core.proofs.CallLaws.{core-keeps}
use Rattle.mdl_core.proofs.CoreSound.{calls_keep-sound}
use Rattle.mdl_space_trials.proofs.room.Room.tables_of.Goals as goal

pub tables_of-requires : goal.tables_of-requires
tables_of-requires c = c.self.invariant 1 (omega arith) (omega arith)

pub invariant_of-self : goal.invariant_of-self
invariant_of-self c = λ who least most. core-keeps calls_keep-sound _ _ (Tables_of 1 c.args.schema.now) _ who (c.self.invariant who least most) c.tables_of.ensures
