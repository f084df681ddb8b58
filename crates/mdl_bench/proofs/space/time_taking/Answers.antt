-- A new space speaks for all its sessions.
use Rattle.std.proofs.Common.{arith}
use Rattle.mdl_bench.proofs.space.time_taking.Goals as goal

pub timed-spent-requires-clause-first : goal.timed-spent-requires-clause-first
timed-spent-requires-clause-first g c = c.in-Ok.ensures.speaks 1 (omega arith) (omega arith)

pub timed-spent-requires-clause-second : goal.timed-spent-requires-clause-second
timed-spent-requires-clause-second g c = c.in-Ok.ensures.speaks 2 (omega arith) (omega arith)
