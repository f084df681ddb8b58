-- All writes are locked; the COMMIT lock is had, waited for, or missed.
use Rattle.std.proofs.Common.{sym, subst}
use Rattle.mdl_key.specs.Keys.{KeyName, commit_key}
use Rattle.mdl_key.specs.declared.mode.Mode.TheVariants.{S}
use Rattle.mdl_key.specs.declared.mode.Duration.TheVariants.{Explicit}
use Rattle.mdl_context.specs.Wishes.{Wish}
use Rattle.mdl_rows.specs.declared.reply.Reply.{Reply}
use Rattle.mdl_stmt.specs.Gets.{Comes, IsGot}
use Rattle.mdl_rows.specs.Playing.{play}
use Rattle.mdl_rows.specs.Rows.{Row, Acquire}
use Rattle.mdl_stmt.specs.Players.{PlayerView, player_of}
use Rattle.mdl_stmt.specs.Players.{ExplicitLocks}
use Rattle.mdl_rows.specs.Statements.{lock_commits, read_lock_under}
use Rattle.mdl_stmt.proofs.RunLemmas.{comes-then, comes-waits}
use Rattle.mdl_stmt.proofs.player.Player.lock_commits.Goals as goal

pub returns-in-Had-clause-run : goal.returns-in-Had-clause-run
returns-in-Had-clause-run g c =
    let inside = c.self.inside in
    let after : ExplicitLocks → PlayerView = λ explicit. player_of inside.cache explicit inside.context inside.is_open inside.has_written inside.savepoints in
    let wish : KeyName → Wish = λ k. record { key = k; mode = S; duration = Explicit } in
    let got : IsGot g.S.LockSpace (wish commit_key) c.args.space.now (after c.lock_writes.new.self) c.get.result c.get.new.space c.get.new.self =
    subst (λ (k : KeyName). IsGot g.S.LockSpace (wish k) c.args.space.now (after c.lock_writes.new.self) c.get.result c.get.new.space c.get.new.self) c.commit-commits.ensures c.get.ensures.run in
    let rest : Row Reply = Acquire (wish commit_key) read_lock_under in
    let first : Comes g.S.LockSpace c.args.space.now c.args.self.now (play (lock_commits c.args.global)) c.args.space.now (after c.lock_writes.new.self) (play rest) =
    subst (λ (p : PlayerView). Comes g.S.LockSpace c.args.space.now p (play (lock_commits c.args.global)) c.args.space.now (after c.lock_writes.new.self) (play rest)) c.self.view_is
    (subst (λ (e : ExplicitLocks). Comes g.S.LockSpace c.args.space.now (after inside.explicit) (play (lock_commits c.args.global)) c.args.space.now (after e) (play rest)) (sym c.lock_writes.ensures)
    (record { so = λ mark pause s run. run })) in
    comes-then first (comes-then ((rw c.in-Had.is at got) read_lock_under) c.read_lock_under.ensures.run)

pub returns-in-Waits-clause-run : goal.returns-in-Waits-clause-run
returns-in-Waits-clause-run g c =
    let inside = c.self.inside in
    let after : ExplicitLocks → PlayerView = λ explicit. player_of inside.cache explicit inside.context inside.is_open inside.has_written inside.savepoints in
    let wish : KeyName → Wish = λ k. record { key = k; mode = S; duration = Explicit } in
    let got : IsGot g.S.LockSpace (wish commit_key) c.args.space.now (after c.lock_writes.new.self) c.get.result c.get.new.space c.get.new.self =
    subst (λ (k : KeyName). IsGot g.S.LockSpace (wish k) c.args.space.now (after c.lock_writes.new.self) c.get.result c.get.new.space c.get.new.self) c.commit-commits.ensures c.get.ensures.run in
    let rest : Row Reply = Acquire (wish commit_key) read_lock_under in
    let first : Comes g.S.LockSpace c.args.space.now c.args.self.now (play (lock_commits c.args.global)) c.args.space.now (after c.lock_writes.new.self) (play rest) =
    subst (λ (p : PlayerView). Comes g.S.LockSpace c.args.space.now p (play (lock_commits c.args.global)) c.args.space.now (after c.lock_writes.new.self) (play rest)) c.self.view_is
    (subst (λ (e : ExplicitLocks). Comes g.S.LockSpace c.args.space.now (after inside.explicit) (play (lock_commits c.args.global)) c.args.space.now (after e) (play rest)) (sym c.lock_writes.ensures)
    (record { so = λ mark pause s run. run })) in
    comes-waits first ((rw c.in-Waits.is at got) read_lock_under)

pub returns-clause-run : goal.returns-clause-run
returns-clause-run g c =
    let inside = c.self.inside in
    let after : ExplicitLocks → PlayerView = λ explicit. player_of inside.cache explicit inside.context inside.is_open inside.has_written inside.savepoints in
    let wish : KeyName → Wish = λ k. record { key = k; mode = S; duration = Explicit } in
    let got : IsGot g.S.LockSpace (wish commit_key) c.args.space.now (after c.lock_writes.new.self) c.get.result c.get.new.space c.get.new.self =
    subst (λ (k : KeyName). IsGot g.S.LockSpace (wish k) c.args.space.now (after c.lock_writes.new.self) c.get.result c.get.new.space c.get.new.self) c.commit-commits.ensures c.get.ensures.run in
    let rest : Row Reply = Acquire (wish commit_key) read_lock_under in
    let first : Comes g.S.LockSpace c.args.space.now c.args.self.now (play (lock_commits c.args.global)) c.args.space.now (after c.lock_writes.new.self) (play rest) =
    subst (λ (p : PlayerView). Comes g.S.LockSpace c.args.space.now p (play (lock_commits c.args.global)) c.args.space.now (after c.lock_writes.new.self) (play rest)) c.self.view_is
    (subst (λ (e : ExplicitLocks). Comes g.S.LockSpace c.args.space.now (after inside.explicit) (play (lock_commits c.args.global)) c.args.space.now (after e) (play rest)) (sym c.lock_writes.ensures)
    (record { so = λ mark pause s run. run })) in
    comes-then first ((rw c.in-Ends.is at got) read_lock_under)
