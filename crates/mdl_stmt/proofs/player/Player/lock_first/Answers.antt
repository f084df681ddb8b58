-- The read lock is in the way, or not.
use Rattle.std.proofs.Common.{Bool, not, refl, sym, ap, subst, ◌∙◌}
use Rattle.std.specs.Prelude.{is_some}
use Rattle.mdl_rows.specs.declared.ending.Ending.{Ending}
use Rattle.mdl_rows.specs.declared.ending.Ending.TheVariants.{Answers}
use Rattle.mdl_rows.specs.declared.error_number.ErrorNumber.TheVariants.{ConflictingReadLock}
use Rattle.mdl_rows.specs.declared.reply.Reply.TheVariants as reply
use Rattle.mdl_rows.specs.Endings.{closing}
use Rattle.mdl_stmt.specs.Gets.{Comes, at_rest}
use Rattle.mdl_rows.specs.Playing.{play}
use Rattle.mdl_rows.specs.Rows.{check, ◌>>◌}
use Rattle.mdl_rows.specs.Statements.{after_commit, commit_first, lock_first, writes_any}
use Rattle.mdl_stmt.proofs.LockTableLemmas.{first-so}
use Rattle.mdl_stmt.proofs.RunLemmas.{comes-as, comes-played, comes-same}
use Rattle.mdl_stmt.proofs.player.Player.lock_first.Goals as goal

pub returns-then-locks_out-clause-run : goal.returns-then-locks_out-clause-run
returns-then-locks_out-clause-run g c =
    let rest = commit_first (after_commit c.args.statement.now) in
    let out = sym c.locks_out.ensures ∙ c.if-locks_out.true in
    subst (λ (e : Ending). Comes g.S.LockSpace c.args.space.now c.args.self.now (play (lock_first c.args.tables.now (after_commit c.args.statement.now))) c.args.space.now c.args.self.now (closing e)) (sym c.failing.ensures)
    (comes-as {x = c.args.self.now} (play (lock_first c.args.tables.now (after_commit c.args.statement.now))) (closing (Answers (reply.Error ConflictingReadLock)))
    (λ mark. ap (λ (t : Bool). play (check (not t) ConflictingReadLock >> rest) mark (at_rest c.args.self.now)) (sym out)
    ∙ first-so c.args.self.now rest (writes_any c.args.tables.now) (is_some c.args.self.now.state.read_lock) refl mark)
    (comes-same g.S.LockSpace c.args.space.now c.args.self.now (closing (Answers (reply.Error ConflictingReadLock)))))

pub returns-clause-run : goal.returns-clause-run
returns-clause-run g c =
    let rest = commit_first (after_commit c.args.statement.now) in
    let free = sym c.locks_out.ensures ∙ c.if-locks_out.false in
    comes-played c.commit_first.new.space c.commit_first.new.self (lock_first c.args.tables.now (after_commit c.args.statement.now)) rest c.commit_first.result
    (comes-as (play (lock_first c.args.tables.now (after_commit c.args.statement.now))) (play rest)
    (λ mark. ap (λ (t : Bool). play (check (not t) ConflictingReadLock >> rest) mark (at_rest c.args.self.now)) (sym free)
    ∙ first-so c.args.self.now rest (writes_any c.args.tables.now) (is_some c.args.self.now.state.read_lock) refl mark)
    (comes-same g.S.LockSpace c.args.space.now c.args.self.now (play rest)))
    c.commit_first.ensures.run
