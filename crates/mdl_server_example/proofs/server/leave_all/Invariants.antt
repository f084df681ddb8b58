-- Those that are left are served.
use Rattle.std.proofs.Common.{ℕ}
use Rattle.std.specs.Vec.Iter.{into_iter_items}
use Rattle.mdl_server_example.specs.Servers.{AreServed}
use Rattle.mdl_server_example.proofs.server.leave_all.Given as goal

abbrev pub invariant-loop-runner : goal.invariant-loop-runner
invariant-loop-runner l = (first : ℕ) × AreServed l.space first (into_iter_items l.runner-iterator)
