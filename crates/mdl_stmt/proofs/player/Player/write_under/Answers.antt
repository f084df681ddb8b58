-- The table is there, and is written.
use Rattle.mdl_rows.specs.Statements.{wrote, write_under}
use Rattle.mdl_stmt.proofs.RunLemmas.{comes-played}
use Rattle.mdl_stmt.proofs.player.Player.write_under.Goals as goal

pub returns-in-Ok-clause-run : goal.returns-in-Ok-clause-run
returns-in-Ok-clause-run g c =
    comes-played c.wrote.new.space c.wrote.new.self (write_under c.args.ticket) wrote c.wrote.result ((rw c.in-Ok.is at c.exists.ensures.run) (λ _. wrote)) c.wrote.ensures.run

pub returns-clause-run : goal.returns-clause-run
returns-clause-run g c = (rw c.in-Err.is at c.exists.ensures.run) (λ _. wrote)
