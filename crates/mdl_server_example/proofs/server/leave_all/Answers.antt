-- The first of those that are left leaves.
use Rattle.std.proofs.Common.{◌+◌}
use Rattle.mdl_server_example.proofs.ServerLemmas.{served-rest}
use Rattle.mdl_server_example.proofs.server.leave_all.Goals as goal

pub loop-runner-preserved : goal.loop-runner-preserved
loop-runner-preserved c =
    (c.loop-runner.invariant.0 + 1, served-rest _ _ c.loop-runner.invariant.0 c.in-Some.runner _ _ c.in-Some.ensures.steps.0 c.loop-runner.invariant.1 c.leave.ensures.others)
