-- All locks are had, or one is waited for.
use Rattle.mdl_stmt.specs.Stages.{lock_rest}
use Rattle.mdl_rows.specs.Statements.{drop_with}
use Rattle.mdl_stmt.proofs.RunLemmas.{comes-played}
use Rattle.mdl_stmt.proofs.player.Player.lock_within.Goals as goal

pub returns-in-Had-clause-run : goal.returns-in-Had-clause-run
returns-in-Had-clause-run g c =
    comes-played c.drop_with.new.space c.drop_with.new.self (lock_rest c.args.locks (drop_with c.args.schema)) (drop_with c.args.schema c.in-Had.locks.tickets) c.drop_with.result
    ((rw c.in-Had.is at c.lock_all.ensures.run) (drop_with c.args.schema)) (rw c.tickets.ensures at c.drop_with.ensures.run)

pub returns-in-Waits-clause-run : goal.returns-in-Waits-clause-run
returns-in-Waits-clause-run g c = (rw c.in-Waits.is at c.lock_all.ensures.run) (drop_with c.args.schema)
