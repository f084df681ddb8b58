-- The lock of all writes is had, waited for, or missed.
use Rattle.std.proofs.Common.{subst}
use Rattle.mdl_key.specs.Keys.{KeyName, global_key}
use Rattle.mdl_key.specs.declared.mode.Mode.TheVariants.{IX}
use Rattle.mdl_key.specs.declared.mode.Duration.TheVariants.{Statement}
use Rattle.mdl_context.specs.Wishes.{Wish}
use Rattle.mdl_stmt.specs.Gets.{IsGot}
use Rattle.mdl_rows.specs.Statements.{lock_and_write, lock_writes}
use Rattle.mdl_stmt.proofs.RunLemmas.{comes-played}
use Rattle.mdl_stmt.proofs.player.Player.lock_writes.Goals as goal

pub returns-in-Had-clause-run : goal.returns-in-Had-clause-run
returns-in-Had-clause-run g c =
    let wish : KeyName → Wish = λ k. record { key = k; mode = IX; duration = Statement } in
    let got : IsGot g.S.LockSpace (wish global_key) c.args.space.now c.args.self.now c.get.result c.get.new.space c.get.new.self =
    subst (λ (k : KeyName). IsGot g.S.LockSpace (wish k) c.args.space.now c.args.self.now c.get.result c.get.new.space c.get.new.self) c.global-writes.ensures c.get.ensures.run in
    let rest = lock_and_write c.args.table.now c.args.priority in
    comes-played c.lock_and_write.new.space c.lock_and_write.new.self (lock_writes c.args.table.now c.args.priority) rest c.lock_and_write.result
    ((rw c.in-Had.is at got) (λ _. rest)) c.lock_and_write.ensures.run

pub returns-in-Waits-clause-run : goal.returns-in-Waits-clause-run
returns-in-Waits-clause-run g c =
    let wish : KeyName → Wish = λ k. record { key = k; mode = IX; duration = Statement } in
    let got : IsGot g.S.LockSpace (wish global_key) c.args.space.now c.args.self.now c.get.result c.get.new.space c.get.new.self =
    subst (λ (k : KeyName). IsGot g.S.LockSpace (wish k) c.args.space.now c.args.self.now c.get.result c.get.new.space c.get.new.self) c.global-writes.ensures c.get.ensures.run in
    let rest = lock_and_write c.args.table.now c.args.priority in
    (rw c.in-Waits.is at got) (λ _. rest)

pub returns-clause-run : goal.returns-clause-run
returns-clause-run g c =
    let wish : KeyName → Wish = λ k. record { key = k; mode = IX; duration = Statement } in
    let got : IsGot g.S.LockSpace (wish global_key) c.args.space.now c.args.self.now c.get.result c.get.new.space c.get.new.self =
    subst (λ (k : KeyName). IsGot g.S.LockSpace (wish k) c.args.space.now c.args.self.now c.get.result c.get.new.space c.get.new.self) c.global-writes.ensures c.get.ensures.run in
    let rest = lock_and_write c.args.table.now c.args.priority in
    (rw c.in-Ends.is at got) (λ _. rest)
