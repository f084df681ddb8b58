-- All locks are had, or one is waited for.
use Rattle.mdl_stmt.specs.Stages.{lock_rest}
use Rattle.mdl_rows.specs.Statements.{lock_named}
use Rattle.mdl_stmt.proofs.RunLemmas.{comes-played}
use Rattle.mdl_stmt.proofs.player.Player.lock_around.Goals as goal

pub returns-in-Had-clause-run : goal.returns-in-Had-clause-run
returns-in-Had-clause-run g c =
    comes-played c.lock_named.new.space c.lock_named.new.self (lock_rest c.args.locks (lock_named c.args.tables.now)) (lock_named c.args.tables.now c.in-Had.scopes.tickets) c.lock_named.result
    ((rw c.in-Had.is at c.lock_all.ensures.run) (lock_named c.args.tables.now)) (rw c.into_tickets.ensures at c.lock_named.ensures.run)

pub returns-in-Waits-clause-run : goal.returns-in-Waits-clause-run
returns-in-Waits-clause-run g c = (rw c.in-Waits.is at c.lock_all.ensures.run) (lock_named c.args.tables.now)
