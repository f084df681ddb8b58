-- Each statement does what its row says.
use Rattle.std.proofs.Common.{sym, subst, ap, ◌∙◌}
use Rattle.mdl_syntax.specs.declared.statement.Statement.{Statement}
use Rattle.mdl_rows.specs.declared.ending.Ending.TheVariants.{Answers}
use Rattle.mdl_rows.specs.declared.reply.Reply.{Reply}
use Rattle.mdl_rows.specs.declared.reply.Reply.TheVariants as reply
use Rattle.mdl_rows.specs.Endings.{closing}
use Rattle.mdl_stmt.specs.Gets.{Comes, IsPlayed}
use Rattle.mdl_rows.specs.Playing.{play}
use Rattle.mdl_rows.specs.Rows.{Row, Give}
use Rattle.mdl_rows.specs.Statements.{after_commit, flush_first, row_of, alter_first, lock_first}
use Rattle.mdl_stmt.proofs.player.Player.perform.Goals as goal

pub returns-in-Rollback-clause-run : goal.returns-in-Rollback-clause-run
returns-in-Rollback-clause-run g c =
    subst (λ (s : Statement). Comes g.S.LockSpace c.args.space.now c.args.self.now (play (row_of s)) c.rollback.new.space c.rollback.new.self (closing (Answers reply.Ok))) (sym c.in-Rollback.is)
    (c.rollback.ensures.run (λ _. Give reply.Ok))

pub returns-in-Write-clause-run : goal.returns-in-Write-clause-run
returns-in-Write-clause-run g c =
    subst (λ (s : Statement). IsPlayed g.S.LockSpace (row_of s) c.args.space.now c.args.self.now c.write.result c.write.new.space c.write.new.self) (sym c.in-Write.is) c.write.ensures.run

pub returns-in-KillQuery-clause-run : goal.returns-in-KillQuery-clause-run
returns-in-KillQuery-clause-run g c =
    subst (λ (s : Statement). Comes g.S.LockSpace c.args.space.now c.args.self.now (play (row_of s)) c.kill.new.space c.kill.new.self (closing (Answers reply.Ok))) (sym c.in-KillQuery.is)
    (c.kill.ensures.run (λ _. Give reply.Ok))

pub returns-in-GetLock-clause-run : goal.returns-in-GetLock-clause-run
returns-in-GetLock-clause-run g c =
    subst (λ (s : Statement). IsPlayed g.S.LockSpace (row_of s) c.args.space.now c.args.self.now c.get_lock.result c.get_lock.new.space c.get_lock.new.self) (sym c.in-GetLock.is) c.get_lock.ensures.run

pub returns-in-ReleaseLock-clause-run : goal.returns-in-ReleaseLock-clause-run
returns-in-ReleaseLock-clause-run g c =
    subst (λ (s : Statement). Comes g.S.LockSpace c.args.space.now c.args.self.now (play (row_of s)) c.release_lock.new.space c.release_lock.new.self (closing c.release_lock.result)) (sym c.in-ReleaseLock.is) c.release_lock.ensures.run

pub returns-in-FlushTablesWithReadLock-clause-run : goal.returns-in-FlushTablesWithReadLock-clause-run
returns-in-FlushTablesWithReadLock-clause-run g c =
    let is = c.in-FlushTablesWithReadLock.is in
    subst (λ (r : Row Reply). IsPlayed g.S.LockSpace r c.args.space.now c.args.self.now c.flush.result c.flush.new.space c.flush.new.self)
    (ap (λ (s : Statement). flush_first (after_commit s)) is ∙ sym (ap row_of is)) c.flush.ensures.run

pub returns-in-AlterTable-clause-run : goal.returns-in-AlterTable-clause-run
returns-in-AlterTable-clause-run g c =
    let table = c.in-AlterTable.alteration.table in
    subst (λ (s : Statement). IsPlayed g.S.LockSpace (row_of s) c.args.space.now c.args.self.now c.alter_first.result c.alter_first.new.space c.alter_first.new.self) (sym c.in-AlterTable.is)
    (subst (λ (s : Statement). IsPlayed g.S.LockSpace (alter_first table (after_commit s)) c.args.space.now c.args.self.now c.alter_first.result c.alter_first.new.space c.alter_first.new.self) c.in-AlterTable.is
    c.alter_first.ensures.run)

pub returns-in-LockTables-clause-run : goal.returns-in-LockTables-clause-run
returns-in-LockTables-clause-run g c =
    subst (λ (s : Statement). IsPlayed g.S.LockSpace (row_of s) c.args.space.now c.args.self.now c.lock_first.result c.lock_first.new.space c.lock_first.new.self) (sym c.in-LockTables.is)
    (subst (λ (s : Statement). IsPlayed g.S.LockSpace (lock_first c.in-LockTables.tables (after_commit s)) c.args.space.now c.args.self.now c.lock_first.result c.lock_first.new.space c.lock_first.new.self) c.in-LockTables.is c.lock_first.ensures.run)
