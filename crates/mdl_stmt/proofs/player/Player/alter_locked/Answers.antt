-- The clone of the lock is had, waited for, or missed.
use Rattle.mdl_rows.specs.Statements.{alter_locked_under, alter_locked}
use Rattle.mdl_stmt.proofs.RunLemmas.{comes-played}
use Rattle.mdl_stmt.proofs.player.Player.alter_locked.Goals as goal

pub returns-in-Had-clause-run : goal.returns-in-Had-clause-run
returns-in-Had-clause-run g c =
    let rest = alter_locked_under c.args.alteration.now in
    comes-played c.alter_locked_under.new.space c.alter_locked_under.new.self (alter_locked c.args.alteration.now) (rest c.in-Had.ticket) c.alter_locked_under.result
    ((rw c.in-Had.is at c.get.ensures.run) rest) c.alter_locked_under.ensures.run

pub returns-in-Waits-clause-run : goal.returns-in-Waits-clause-run
returns-in-Waits-clause-run g c = (rw c.in-Waits.is at c.get.ensures.run) (alter_locked_under c.args.alteration.now)

pub returns-in-Ends-clause-run : goal.returns-in-Ends-clause-run
returns-in-Ends-clause-run g c = (rw c.in-Ends.is at c.get.ensures.run) (alter_locked_under c.args.alteration.now)
