-- What was done so far comes to what is left to do.
use Rattle.std.proofs.Common.{◌≡◌, None, drop}
use Rattle.mdl_rows.specs.declared.reply.Reply.{Reply}
use Rattle.mdl_stmt.specs.Attendance.{GoesOn}
use Rattle.mdl_stmt.specs.Gets.{Comes}
use Rattle.mdl_rows.specs.Playing.{play}
use Rattle.mdl_rows.specs.Rows.{Row, for_each, ◌>>=◌}
use Rattle.mdl_rows.specs.Statements.{can_change}
use Rattle.mdl_stmt.proofs.player.Player.all_can_change.Given as goal

abbrev pub invariant-loop-ticket : goal.invariant-loop-ticket
invariant-loop-ticket g l = record {
  idle : l.self.context.wait ≡ None;
  goes_on : GoesOn g.S.LockSpace l.fn.space l.fn.self l.space l.self;
  run : (rest : Unit {0} → Row Reply) → Comes g.S.LockSpace l.fn.space l.fn.self (play (for_each can_change l.tickets >>= rest)) l.space l.self (play (for_each can_change (drop l.ticket-index l.tickets) >>= rest));
}
