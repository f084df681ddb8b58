-- The space attends to the session.
use Rattle.std.proofs.Common.{◌≡◌}
use Rattle.mdl.specs.mdl_stmt.Attendance.{AttendsWith}
use Rattle.mdl_threaded_server_example.proofs.work.finish.Given as goal

abbrev pub invariant-loop-wait : goal.invariant-loop-wait
invariant-loop-wait g l = record {
  attends : AttendsWith g.S.LockSpace l.space l.runner.context l.runner.cache;
  who : l.runner.context.who ≡ l.who;
}
