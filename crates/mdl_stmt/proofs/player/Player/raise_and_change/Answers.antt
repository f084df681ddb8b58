-- The stronger lock is had, waited for, or missed.
use Rattle.mdl_rows.specs.Statements.{raise_and_change, change_table}
use Rattle.mdl_stmt.proofs.RunLemmas.{comes-played}
use Rattle.mdl_stmt.proofs.player.Player.raise_and_change.Goals as goal

pub returns-in-Had-clause-run : goal.returns-in-Had-clause-run
returns-in-Had-clause-run g c =
    let rest = change_table c.args.alteration.now in
    comes-played c.change_table.new.space c.change_table.new.self (raise_and_change c.args.alteration.now c.args.ticket) (rest c.in-Had.alone) c.change_table.result
    ((rw c.in-Had.is at c.raise.ensures.run) rest) c.change_table.ensures.run

pub returns-in-Waits-clause-run : goal.returns-in-Waits-clause-run
returns-in-Waits-clause-run g c = (rw c.in-Waits.is at c.raise.ensures.run) (change_table c.args.alteration.now)

pub returns-in-Ends-clause-run : goal.returns-in-Ends-clause-run
returns-in-Ends-clause-run g c = (rw c.in-Ends.is at c.raise.ensures.run) (change_table c.args.alteration.now)
