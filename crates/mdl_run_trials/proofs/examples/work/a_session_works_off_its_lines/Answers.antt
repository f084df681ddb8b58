-- A new space speaks for session 1.
use Rattle.std.proofs.Common.{arith}
use Rattle.mdl_run_trials.proofs.examples.work.a_session_works_off_its_lines.Goals as goal

pub work-requires-clause-speaks : goal.work-requires-clause-speaks
work-requires-clause-speaks g c = c.in_ok-space.ensures.speaks 1 (omega arith) (omega arith)
