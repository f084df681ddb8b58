-- All locks are had, or one is waited for.
use Rattle.mdl_stmt.specs.Stages.{lock_rest}
use Rattle.mdl_rows.specs.Statements.{drop_under}
use Rattle.mdl_stmt.proofs.RunLemmas.{comes-played}
use Rattle.mdl_stmt.proofs.player.Player.lock_tables.Goals as goal

pub returns-in-Had-clause-run : goal.returns-in-Had-clause-run
returns-in-Had-clause-run g c =
    comes-played c.drop_under.new.space c.drop_under.new.self (lock_rest c.args.locks drop_under) (drop_under c.in-Had.locks.tickets) c.drop_under.result
    ((rw c.in-Had.is at c.lock_all.ensures.run) drop_under) (rw c.tickets.ensures at c.drop_under.ensures.run)

pub returns-in-Waits-clause-run : goal.returns-in-Waits-clause-run
returns-in-Waits-clause-run g c = (rw c.in-Waits.is at c.lock_all.ensures.run) drop_under
