-- The first list gets shorter.
use Rattle.std.proofs.Common.{length}
use Rattle.mdl_space_trials.proofs.base.deadlocks.plain.+is_in_order.Given as goal

abbrev pub decreases-is_in_order : goal.decreases-is_in_order
decreases-is_in_order l = length l.one.now
