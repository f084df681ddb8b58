-- The lock of all writes is had, waited for, or missed.
use Rattle.std.proofs.Common.{subst}
use Rattle.mdl_key.specs.Keys.{KeyName, global_key}
use Rattle.mdl_key.specs.declared.mode.Mode.TheVariants.{S}
use Rattle.mdl_key.specs.declared.mode.Duration.TheVariants.{Explicit}
use Rattle.mdl_context.specs.Wishes.{Wish}
use Rattle.mdl_stmt.specs.Gets.{IsGot}
use Rattle.mdl_rows.specs.Statements.{get_read_lock, lock_commits}
use Rattle.mdl_stmt.proofs.RunLemmas.{comes-played}
use Rattle.mdl_stmt.proofs.player.Player.get_read_lock.Goals as goal

pub returns-in-Had-clause-run : goal.returns-in-Had-clause-run
returns-in-Had-clause-run g c =
    let wish : KeyName → Wish = λ k. record { key = k; mode = S; duration = Explicit } in
    let got : IsGot g.S.LockSpace (wish global_key) c.args.space.now c.args.self.now c.get.result c.get.new.space c.get.new.self =
    subst (λ (k : KeyName). IsGot g.S.LockSpace (wish k) c.args.space.now c.args.self.now c.get.result c.get.new.space c.get.new.self) c.global-writes.ensures c.get.ensures.run in
    comes-played c.lock_commits.new.space c.lock_commits.new.self get_read_lock (lock_commits c.in-Had.global) c.lock_commits.result
    ((rw c.in-Had.is at got) lock_commits) c.lock_commits.ensures.run

pub returns-in-Waits-clause-run : goal.returns-in-Waits-clause-run
returns-in-Waits-clause-run g c =
    let wish : KeyName → Wish = λ k. record { key = k; mode = S; duration = Explicit } in
    let got : IsGot g.S.LockSpace (wish global_key) c.args.space.now c.args.self.now c.get.result c.get.new.space c.get.new.self =
    subst (λ (k : KeyName). IsGot g.S.LockSpace (wish k) c.args.space.now c.args.self.now c.get.result c.get.new.space c.get.new.self) c.global-writes.ensures c.get.ensures.run in
    (rw c.in-Waits.is at got) lock_commits
