-- The space attends to the session, and a statement waits.
use Rattle.std.proofs.Common.{◌≡◌, IsSome}
use Rattle.mdl.specs.mdl_stmt.Attendance.{AttendsWith}
use Rattle.mdl_threaded_server_example.proofs.work.wait_out.Given as goal

abbrev pub invariant-loop-poll : goal.invariant-loop-poll
invariant-loop-poll g l = record {
  attends : AttendsWith g.S.LockSpace l.space l.runner.context l.runner.cache;
  who : l.runner.context.who ≡ l.who;
  waits : IsSome l.runner.work;
}
