-- Under the COMMIT lock the transaction ends, and then the statement goes on.
use Rattle.std.proofs.Common.{sym, subst}
use Rattle.mdl_stmt.specs.declared.stage.Stage.{Stage}
use Rattle.mdl_stmt.specs.Gets.{IsPlayed}
use Rattle.mdl_rows.specs.Rows.{◌>>◌}
use Rattle.mdl_stmt.specs.Stages.{rest_of}
use Rattle.mdl_rows.specs.Statements.{after_commit, end_under}
use Rattle.mdl_stmt.proofs.RunLemmas.{comes-played}
use Rattle.mdl_stmt.proofs.player.Player.proceed.Goals as goal

pub returns-in-Commit-clause-run : goal.returns-in-Commit-clause-run
returns-in-Commit-clause-run g c =
    let rest = after_commit c.in-Commit.statement.now in
    subst (λ (s : Stage). IsPlayed g.S.LockSpace (rest_of s c.args.ticket) c.args.space.now c.args.self.now c.after_commit.result c.after_commit.new.space c.after_commit.new.self) (sym c.in-Commit.is)
    (comes-played c.after_commit.new.space c.after_commit.new.self (end_under c.args.ticket >> rest) rest c.after_commit.result (c.end_under.ensures.run (λ _. rest)) c.after_commit.ensures.run)
