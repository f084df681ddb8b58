-- What was had so far comes to what is left to get.
use Rattle.std.proofs.Common.{◌≡◌, ◌-◌, None, List, ℕ, length}
use Rattle.mdl_rows.specs.declared.reply.Reply.{Reply}
use Rattle.mdl_stmt.specs.Attendance.{GoesOn}
use Rattle.mdl_stmt.specs.Gets.{Comes}
use Rattle.mdl_rows.specs.Playing.{play}
use Rattle.mdl_rows.specs.Rows.{Row}
use Rattle.mdl_stmt.specs.Stages.{lock_rest_by, wish_by}
use Rattle.mdl_stmt.proofs.player.Player.lock_each.Given as goal

abbrev pub invariant-loop-key : goal.invariant-loop-key
invariant-loop-key g l = record {
  idle : l.self.context.wait ≡ None;
  goes_on : GoesOn g.S.LockSpace l.fn.space l.fn.self l.space l.self;
  keys : l.locks.keys ≡ l.fn.locks.keys;
  run : (rest : List ℕ → Row Reply) → Comes g.S.LockSpace l.fn.space l.fn.self (play (lock_rest_by (wish_by l.fn.locking) l.fn.locks rest)) l.space l.self (play (lock_rest_by (wish_by l.fn.locking) l.locks rest));
}

abbrev pub decreases-loop-key : goal.decreases-loop-key
decreases-loop-key g l = length l.locks.keys - length l.locks.tickets
