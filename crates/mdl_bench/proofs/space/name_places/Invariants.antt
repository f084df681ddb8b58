-- The space goes on to speak for the same sessions.
use Rattle.std.proofs.Common.{ℕ}
use Rattle.mdl_bench.proofs.space.name_places.Given as goal

abbrev pub invariant-loop-index : goal.invariant-loop-index
invariant-loop-index g l = (w : ℕ) → g.S.LockSpace.speaks_for l.fn.space w → g.S.LockSpace.speaks_for l.space w
