-- To bring a statement to its end from here, with the waits that are left, is to bring it there from the start.
use Rattle.std.proofs.Common.{◌≡◌, ◌-◌}
use Rattle.mdl_defs.specs.Caches.{CacheView}
use Rattle.mdl_calls.specs.Words.{Runs}
use Rattle.mdl_context.specs.Contexts.{LeavesOthers}
use Rattle.mdl_rows.specs.Endings.{Pause}
use Rattle.mdl_stmt.specs.Attendance.{AttendsWith, cached}
use Rattle.mdl_stmt.specs.Gets.{paused}
use Rattle.mdl_stmt.specs.Stages.{session_of}
use Rattle.mdl_work.specs.Paces.{LeftWhileWaiting}
use Rattle.mdl_work.specs.Works.{finishing, most_waits}
use Rattle.mdl_work.proofs.worker.Worker.finish.Given as goal

abbrev pub invariant-loop-wait : goal.invariant-loop-wait
invariant-loop-wait g l = record {
  attends : AttendsWith g.S.LockSpace l.space l.self.runner.context l.self.runner.cache;
  others : LeavesOthers g.S.LockSpace l.fn.self.who l.fn.space l.space;
  who : l.self.runner.context.who ≡ l.fn.self.who;
  left : LeftWhileWaiting (paused l.progress (session_of l.self.runner));
  same : l.self.who ≡ l.fn.self.who;
  patience : l.self.patience ≡ l.fn.self.patience;
  run : (end : Pause) (b : g.row.S.Denot × CacheView)
      → Runs (cached g.S.LockSpace) (l.space, l.self.runner.cache) (finishing l.fn.self.patience (most_waits - l._wait) (paused l.progress (session_of l.self.runner))) end b
      → Runs (cached g.S.LockSpace) (l.fn.space, l.fn.self.runner.cache) (finishing l.fn.self.patience most_waits (paused l.fn.progress (session_of l.fn.self.runner))) end b;
}
