-- The tables before are shown.
use Rattle.std.proofs.Common.{◌≡◌, None, drop}
use Rattle.mdl_stmt.specs.Attendance.{GoesOn}
use Rattle.mdl_stmt.specs.Gets.{Comes}
use Rattle.mdl_rows.specs.Playing.{play}
use Rattle.mdl_rows.specs.Statements.{lock_to_read, show_all}
use Rattle.mdl_stmt.proofs.player.Player.show_from.Given as goal

abbrev pub invariant-loop-at : goal.invariant-loop-at
invariant-loop-at g l = record {
  run : Comes g.S.LockSpace l.fn.space l.fn.self (play (show_all lock_to_read l.fn.shown (drop l.from l.tables))) l.space l.self (play (show_all lock_to_read l.shown (drop l.at l.tables)));
  goes_on : GoesOn g.S.LockSpace l.fn.space l.fn.self l.space l.self;
  idle : l.self.context.wait ≡ None;
}
