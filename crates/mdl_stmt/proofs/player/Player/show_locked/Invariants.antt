-- The tables before are shown.
use Rattle.std.proofs.Common.{◌≡◌, None, [], drop}
use Rattle.mdl_stmt.specs.Attendance.{GoesOn}
use Rattle.mdl_stmt.specs.Gets.{Comes}
use Rattle.mdl_rows.specs.Playing.{play}
use Rattle.mdl_rows.specs.Statements.{lock_held, show_all}
use Rattle.mdl_stmt.proofs.player.Player.show_locked.Given as goal

abbrev pub invariant-loop-table : goal.invariant-loop-table
invariant-loop-table g l = record {
  run : Comes g.S.LockSpace l.fn.space l.fn.self (play (show_all lock_held [] l.tables)) l.space l.self (play (show_all lock_held l.shown (drop l.table-index l.tables)));
  goes_on : GoesOn g.S.LockSpace l.fn.space l.fn.self l.space l.self;
  idle : l.self.context.wait ≡ None;
}
