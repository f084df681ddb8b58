-- The stronger lock is had, waited for, or missed.
use Rattle.mdl_rows.specs.Statements.{alter_in_place, reopen_and_change}
use Rattle.mdl_stmt.proofs.RunLemmas.{comes-played}
use Rattle.mdl_stmt.proofs.player.Player.alter_in_place.Goals as goal

pub returns-in-Had-clause-run : goal.returns-in-Had-clause-run
returns-in-Had-clause-run g c =
    let rest = reopen_and_change c.args.alteration.now in
    comes-played c.reopen_and_change.new.space c.reopen_and_change.new.self (alter_in_place c.args.alteration.now c.args.ticket) (rest c.in-Had.prepared) c.reopen_and_change.result
    ((rw c.in-Had.is at c.raise.ensures.run) rest) c.reopen_and_change.ensures.run

pub returns-in-Waits-clause-run : goal.returns-in-Waits-clause-run
returns-in-Waits-clause-run g c = (rw c.in-Waits.is at c.raise.ensures.run) (reopen_and_change c.args.alteration.now)

pub returns-in-Ends-clause-run : goal.returns-in-Ends-clause-run
returns-in-Ends-clause-run g c = (rw c.in-Ends.is at c.raise.ensures.run) (reopen_and_change c.args.alteration.now)
