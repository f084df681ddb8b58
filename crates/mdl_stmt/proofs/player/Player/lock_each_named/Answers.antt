-- All locks are had, or one is waited for, and the list is of the same keys.
use Rattle.std.proofs.Common.{List, ℕ, sym, subst}
use Rattle.mdl_key.specs.Keys.{KeyName}
use Rattle.mdl_stmt.specs.declared.got.Played.TheVariants as played
use Rattle.mdl_rows.specs.declared.reply.Reply.{Reply}
use Rattle.mdl_stmt.specs.Gets.{IsPlayed, Waits}
use Rattle.mdl_stmt.specs.LockLists.{with_next_ticket}
use Rattle.mdl_rows.specs.Playing.{play}
use Rattle.mdl_rows.specs.Rows.{Row}
use Rattle.mdl_stmt.specs.Stages.{lock_rest_by}
use Rattle.mdl_rows.specs.Statements.{keep_locked, table_lock}
use Rattle.mdl_stmt.proofs.RunLemmas.{comes-then}
use Rattle.mdl_stmt.proofs.player.Player.lock_each_named.Goals as goal

pub returns-in-Had-clause-run : goal.returns-in-Had-clause-run
returns-in-Had-clause-run g c =
    comes-then ((rw c.in-Had.is at c.lock_each.ensures.run) (keep_locked c.args.tables.now c.args.locks.keys c.args.scopes.items))
    (subst (λ (keys : List KeyName). IsPlayed g.S.LockSpace (keep_locked c.args.tables.now keys c.args.scopes.items c.in-Had.locks.tickets) c.lock_each.new.space c.lock_each.new.self (played.Ends c.keep_locked.result) c.keep_locked.new.space c.keep_locked.new.self)
    (rw c.in-Had.is at c.lock_each.ensures.keys) c.keep_locked.ensures.run)

pub returns-in-Waits-clause-run : goal.returns-in-Waits-clause-run
returns-in-Waits-clause-run g c =
    let rest : List KeyName → List ℕ → Row Reply = λ keys. keep_locked c.args.tables.now keys c.args.scopes.items in
    subst (λ (keys : List KeyName). Waits g.S.LockSpace c.args.space.now c.args.self.now (play (lock_rest_by (table_lock c.args.tables.now) c.args.locks (rest c.args.locks.keys))) c.in-Waits.key c.in-Waits.mode
    (λ ticket. lock_rest_by (table_lock c.args.tables.now) (with_next_ticket ticket c.in-Waits.locks) (rest keys)) c.lock_each.new.space c.lock_each.new.self)
    (sym (rw c.in-Waits.is at c.lock_each.ensures.keys)) ((rw c.in-Waits.is at c.lock_each.ensures.run) (rest c.args.locks.keys))
