-- The space goes on to speak for the same sessions.
use Rattle.std.proofs.Common.{arith}
use Rattle.mdl_calls.specs.Words.{Key_of}
use Rattle.mdl_core.proofs.CallLaws.{core-keeps}
use Rattle.mdl_core.proofs.CoreSound.{calls_keep-sound}
use Rattle.mdl_space_trials.proofs.room.Room.key_of.Goals as goal

pub key_of-requires : goal.key_of-requires
key_of-requires c = c.self.invariant 1 (omega arith) (omega arith)

pub invariant_of-self : goal.invariant_of-self
invariant_of-self c = λ who least most. core-keeps calls_keep-sound _ _ (Key_of 1 c.args.place) _ who (c.self.invariant who least most) c.key_of.ensures
