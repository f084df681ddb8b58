-- No table is locked, and there is no global read lock of one's own.
use Rattle.std.proofs.Common.{false, sym, ap, ◌∙◌}
use Rattle.std.specs.Prelude.{is_some}
use Rattle.mdl_rows.specs.Playing.{play}
use Rattle.mdl_stmt.specs.Players.{PlayerView}
use Rattle.mdl_rows.specs.States.{has_locked}
use Rattle.mdl_rows.specs.Statements.{lock_writes, write}
use Rattle.mdl_stmt.proofs.RowLemmas.{read_lock-so, write-so}
use Rattle.mdl_stmt.proofs.RunLemmas.{comes-as, comes-played, comes-same}
use Rattle.mdl_stmt.proofs.player.Player.write.Goals as goal

pub returns-clause-run : goal.returns-clause-run
returns-clause-run g c =
    let rest = lock_writes c.args.table.now c.args.priority in
    let none = sym (ap (λ (p : PlayerView). has_locked p.state.locked) c.self.view_is) ∙ sym c.has_locked.ensures ∙ c.if-has_locked.false in
    let free = sym (ap (λ (p : PlayerView). is_some p.state.read_lock) c.self.view_is) ∙ sym c.has_read_lock.ensures ∙ c.if-has_read_lock.false in
    comes-played c.lock_writes.new.space c.lock_writes.new.self (write c.args.table.now c.args.priority) rest c.lock_writes.result
    (comes-as (play (write c.args.table.now c.args.priority)) (play rest)
    (λ mark. read_lock-so c.args.self.now rest false free mark ∙ write-so c.args.self.now c.args.table.now c.args.priority false none mark)
    (comes-same g.S.LockSpace c.args.space.now c.args.self.now (play rest)))
    c.lock_writes.ensures.run
