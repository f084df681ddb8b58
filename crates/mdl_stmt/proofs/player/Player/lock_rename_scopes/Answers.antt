-- All locks are had, or one is waited for.
use Rattle.std.proofs.Common.{◌≡◌, ℕ, List, sym, subst}
use Rattle.mdl_key.specs.Keys.{KeyName}
use Rattle.mdl_rows.specs.declared.reply.Reply.{Reply}
use Rattle.mdl_stmt.specs.Gets.{IsPlayed, Waits}
use Rattle.mdl_rows.specs.KeyOrder.{locked_ticket}
use Rattle.mdl_stmt.specs.LockLists.{with_next_ticket}
use Rattle.mdl_rows.specs.Playing.{play}
use Rattle.mdl_rows.specs.Rows.{Row}
use Rattle.mdl_stmt.specs.Stages.{rename_scopes}
use Rattle.mdl_rows.specs.Statements.{lock_and_rename, schema_of}
use Rattle.mdl_stmt.proofs.RunLemmas.{comes-played}
use Rattle.mdl_stmt.proofs.player.Player.lock_rename_scopes.Goals as goal

pub returns-in-Had-clause-run : goal.returns-in-Had-clause-run
returns-in-Had-clause-run g c =
    let rest : List KeyName → List ℕ → Row Reply = λ keys tickets. lock_and_rename c.args.from.now c.args.to.now (locked_ticket (schema_of c.args.to.now) keys tickets) in
    let tickets : List ℕ = c.in-Had.scopes.tickets in
    let same : c.in-Had.scopes.keys ≡ c.args.locks.keys = rw c.in-Had.is at c.lock_all.ensures.keys in
    comes-played c.lock_and_rename.new.space c.lock_and_rename.new.self (rename_scopes c.args.from.now c.args.to.now c.args.locks c.args.locks.keys) (rest c.args.locks.keys tickets) c.lock_and_rename.result
    ((rw c.in-Had.is at c.lock_all.ensures.run) (rest c.args.locks.keys))
    (subst (λ (keys : List KeyName). IsPlayed g.S.LockSpace (rest keys tickets) c.lock_all.new.space c.lock_all.new.self c.lock_and_rename.result c.lock_and_rename.new.space c.lock_and_rename.new.self)
    same c.lock_and_rename.ensures.run)

pub returns-in-Waits-clause-run : goal.returns-in-Waits-clause-run
returns-in-Waits-clause-run g c =
    let rest : List KeyName → List ℕ → Row Reply = λ keys tickets. lock_and_rename c.args.from.now c.args.to.now (locked_ticket (schema_of c.args.to.now) keys tickets) in
    subst (λ (keys : List KeyName). Waits g.S.LockSpace c.args.space.now c.args.self.now (play (rename_scopes c.args.from.now c.args.to.now c.args.locks c.args.locks.keys)) c.in-Waits.key c.in-Waits.mode
    (λ ticket. rename_scopes c.args.from.now c.args.to.now (with_next_ticket ticket c.in-Waits.locks) keys) c.lock_all.new.space c.lock_all.new.self)
    (sym (rw c.in-Waits.is at c.lock_all.ensures.keys)) ((rw c.in-Waits.is at c.lock_all.ensures.run) (rest c.args.locks.keys))
