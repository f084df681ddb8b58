-- The space attends to the session.
use Rattle.mdl_space.specs.CoreMembers.{core_space}
use Rattle.mdl_stmt.specs.Attendance.{AttendsWith}
use Rattle.mdl_run_trials.proofs.examples.stmt.reads_at_last.Given as goal

abbrev pub invariant-loop-line : goal.invariant-loop-line
invariant-loop-line l = AttendsWith core_space l.space l.runner.context l.runner.cache
