-- All locks are had, or one is waited for.
use Rattle.mdl_stmt.specs.Stages.{lock_rest}
use Rattle.mdl_rows.specs.Statements.{lock_and_drop}
use Rattle.mdl_stmt.proofs.RunLemmas.{comes-played}
use Rattle.mdl_stmt.proofs.player.Player.lock_scopes.Goals as goal

pub returns-in-Had-clause-run : goal.returns-in-Had-clause-run
returns-in-Had-clause-run g c =
    comes-played c.lock_and_drop.new.space c.lock_and_drop.new.self (lock_rest c.args.locks (λ scopes. lock_and_drop c.args.tables.now)) (lock_and_drop c.args.tables.now) c.lock_and_drop.result
    ((rw c.in-Had.is at c.lock_all.ensures.run) (λ scopes. lock_and_drop c.args.tables.now)) c.lock_and_drop.ensures.run

pub returns-in-Waits-clause-run : goal.returns-in-Waits-clause-run
returns-in-Waits-clause-run g c = (rw c.in-Waits.is at c.lock_all.ensures.run) (λ scopes. lock_and_drop c.args.tables.now)
