-- To look at a wait leaves the keys that the session knows.
use Rattle.std.proofs.Common.{◌≡◌}
use Rattle.mdl_shared.specs.SessionViews.{data_of}
use Rattle.mdl_bench.proofs.patient.wait.Given as goal

abbrev pub invariant-loop : goal.invariant-loop
invariant-loop g l = (data_of l.session).known ≡ (data_of l.fn.session).known
