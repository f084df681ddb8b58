-- The lock is what it was before, and then it is raised again.
use Rattle.mdl_rows.specs.Statements.{raise_and_change, reopen_and_change}
use Rattle.mdl_stmt.proofs.RunLemmas.{comes-played}
use Rattle.mdl_stmt.proofs.player.Player.reopen_and_change.Goals as goal

pub returns-clause-run : goal.returns-clause-run
returns-clause-run g c =
    let rest = raise_and_change c.args.alteration.now c.args.ticket in
    comes-played c.raise_and_change.new.space c.raise_and_change.new.self (reopen_and_change c.args.alteration.now c.args.ticket) rest c.raise_and_change.result
    (c.lower.ensures.run (λ _. rest)) c.raise_and_change.ensures.run
