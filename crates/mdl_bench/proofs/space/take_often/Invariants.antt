-- The space speaks for the first session.
use Rattle.mdl_bench.proofs.space.take_often.Given as goal

abbrev pub invariant-loop-turn : goal.invariant-loop-turn
invariant-loop-turn g l = g.S.LockSpace.speaks_for l.space 1
