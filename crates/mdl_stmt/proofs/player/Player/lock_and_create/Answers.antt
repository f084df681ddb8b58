-- The table's lock is had, waited for, or missed.
use Rattle.mdl_rows.specs.Statements.{lock_and_create, create_under}
use Rattle.mdl_stmt.proofs.RunLemmas.{comes-played}
use Rattle.mdl_stmt.proofs.player.Player.lock_and_create.Goals as goal

pub returns-in-Had-clause-run : goal.returns-in-Had-clause-run
returns-in-Had-clause-run g c =
    comes-played c.create_under.new.space c.create_under.new.self (lock_and_create c.args.table.now c.args.columns.now c.args.schema) (create_under c.args.columns.now c.args.schema c.in-Had.ticket) c.create_under.result
    ((rw c.in-Had.is at c.get.ensures.run) (create_under c.args.columns.now c.args.schema)) c.create_under.ensures.run

pub returns-in-Waits-clause-run : goal.returns-in-Waits-clause-run
returns-in-Waits-clause-run g c = (rw c.in-Waits.is at c.get.ensures.run) (create_under c.args.columns.now c.args.schema)

pub returns-in-Ends-clause-run : goal.returns-in-Ends-clause-run
returns-in-Ends-clause-run g c = (rw c.in-Ends.is at c.get.ensures.run) (create_under c.args.columns.now c.args.schema)
