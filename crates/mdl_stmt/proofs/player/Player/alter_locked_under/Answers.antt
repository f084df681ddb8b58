-- The check, and then the stronger lock, which is had, waited for, or missed.
use Rattle.mdl_key.specs.declared.mode.Mode.TheVariants.{X}
use Rattle.mdl_rows.specs.Rows.{Upgrade}
use Rattle.mdl_rows.specs.Statements.{alter_locked_under, change_and_lower}
use Rattle.mdl_stmt.proofs.RunLemmas.{comes-played, comes-then, comes-waits}
use Rattle.mdl_stmt.proofs.player.Player.alter_locked_under.Goals as goal

pub returns-in-Err-clause-run : goal.returns-in-Err-clause-run
returns-in-Err-clause-run g c =
    let alteration = c.args.alteration.now in
    (rw c.in-Err.is at c.check_change.ensures.run) (λ _. Upgrade c.args.ticket alteration.table X (change_and_lower alteration))

pub returns-in-Had-clause-run : goal.returns-in-Had-clause-run
returns-in-Had-clause-run g c =
    let alteration = c.args.alteration.now in
    let rest = change_and_lower alteration in
    comes-played c.change_and_lower.new.space c.change_and_lower.new.self (alter_locked_under alteration c.args.ticket) (rest c.in-Had.alone) c.change_and_lower.result
    (comes-then ((rw c.in_default.is at c.check_change.ensures.run) (λ _. Upgrade c.args.ticket alteration.table X rest)) ((rw c.in-Had.is at c.raise.ensures.run) rest))
    c.change_and_lower.ensures.run

pub returns-in-Waits-clause-run : goal.returns-in-Waits-clause-run
returns-in-Waits-clause-run g c =
    let alteration = c.args.alteration.now in
    let rest = change_and_lower alteration in
    comes-waits ((rw c.in_default.is at c.check_change.ensures.run) (λ _. Upgrade c.args.ticket alteration.table X rest)) ((rw c.in-Waits.is at c.raise.ensures.run) rest)

pub returns-in-Ends-clause-run : goal.returns-in-Ends-clause-run
returns-in-Ends-clause-run g c =
    let alteration = c.args.alteration.now in
    let rest = change_and_lower alteration in
    comes-then ((rw c.in_default.is at c.check_change.ensures.run) (λ _. Upgrade c.args.ticket alteration.table X rest)) ((rw c.in-Ends.is at c.raise.ensures.run) rest)
