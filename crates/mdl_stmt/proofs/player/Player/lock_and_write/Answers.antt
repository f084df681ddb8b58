-- The table's lock is had, waited for, or missed.
use Rattle.std.proofs.Common.{subst}
use Rattle.mdl_key.specs.declared.mode.Mode.{Mode}
use Rattle.mdl_key.specs.declared.mode.Duration.TheVariants.{Transaction}
use Rattle.mdl_context.specs.Wishes.{Wish}
use Rattle.mdl_stmt.specs.Gets.{IsGot}
use Rattle.mdl_rows.specs.Statements.{lock_and_write, write_mode, write_under}
use Rattle.mdl_stmt.proofs.RunLemmas.{comes-played}
use Rattle.mdl_stmt.proofs.player.Player.lock_and_write.Goals as goal

pub returns-in-Had-clause-run : goal.returns-in-Had-clause-run
returns-in-Had-clause-run g c =
    let wish : Mode → Wish = λ m. record { key = c.args.table.now; mode = m; duration = Transaction } in
    let got : IsGot g.S.LockSpace (wish (write_mode c.args.priority)) c.args.space.now c.args.self.now c.get.result c.get.new.space c.get.new.self =
    subst (λ (m : Mode). IsGot g.S.LockSpace (wish m) c.args.space.now c.args.self.now c.get.result c.get.new.space c.get.new.self) c.write_mode-mode.ensures c.get.ensures.run in
    comes-played c.write_under.new.space c.write_under.new.self (lock_and_write c.args.table.now c.args.priority) (write_under c.in-Had.ticket) c.write_under.result ((rw c.in-Had.is at got) write_under) c.write_under.ensures.run

pub returns-in-Waits-clause-run : goal.returns-in-Waits-clause-run
returns-in-Waits-clause-run g c =
    rw c.write_mode-mode.ensures ((rw c.in-Waits.is at (subst (λ (m : Mode). IsGot g.S.LockSpace (record { key = c.args.table.now; mode = m; duration = Transaction }) c.args.space.now c.args.self.now c.get.result c.get.new.space c.get.new.self) c.write_mode-mode.ensures c.get.ensures.run)) write_under)

pub returns-in-Ends-clause-run : goal.returns-in-Ends-clause-run
returns-in-Ends-clause-run g c =
    (rw c.in-Ends.is at (subst (λ (m : Mode). IsGot g.S.LockSpace (record { key = c.args.table.now; mode = m; duration = Transaction }) c.args.space.now c.args.self.now c.get.result c.get.new.space c.get.new.self) c.write_mode-mode.ensures c.get.ensures.run)) write_under
