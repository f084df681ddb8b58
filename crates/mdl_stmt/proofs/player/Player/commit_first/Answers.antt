-- The statement follows the commit.
use Rattle.mdl_rows.specs.Statements.{after_commit, commit_first}
use Rattle.mdl_stmt.proofs.RunLemmas.{comes-played}
use Rattle.mdl_stmt.proofs.player.Player.commit_first.Goals as goal

pub returns-in-Had-clause-run : goal.returns-in-Had-clause-run
returns-in-Had-clause-run g c =
    let rest = after_commit c.args.statement.now in
    comes-played c.after_commit.new.space c.after_commit.new.self (commit_first rest) rest c.after_commit.result ((rw c.in-Had.is at c.commit.ensures.run) rest) c.after_commit.ensures.run

pub returns-in-Waits-clause-run : goal.returns-in-Waits-clause-run
returns-in-Waits-clause-run g c = (rw c.in-Waits.is at c.commit.ensures.run) (after_commit c.args.statement.now)

pub returns-in-Ends-clause-run : goal.returns-in-Ends-clause-run
returns-in-Ends-clause-run g c = (rw c.in-Ends.is at c.commit.ensures.run) (after_commit c.args.statement.now)
