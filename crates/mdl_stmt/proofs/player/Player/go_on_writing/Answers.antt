-- Under the COMMIT lock a write that is a transaction of its own ends, and is done.
use Rattle.std.proofs.Common.{sym, subst}
use Rattle.mdl_rows.specs.declared.ending.Ending.TheVariants.{Answers}
use Rattle.mdl_rows.specs.declared.reply.Reply.TheVariants as reply
use Rattle.mdl_stmt.specs.declared.stage.Writing.{Writing}
use Rattle.mdl_rows.specs.Endings.{closing}
use Rattle.mdl_stmt.specs.Gets.{Comes}
use Rattle.mdl_rows.specs.Playing.{play}
use Rattle.mdl_rows.specs.Rows.{Give}
use Rattle.mdl_stmt.specs.Stages.{rest_of_writing}
use Rattle.mdl_stmt.proofs.player.Player.go_on_writing.Goals as goal

pub returns-in-Commit-clause-run : goal.returns-in-Commit-clause-run
returns-in-Commit-clause-run g c =
    subst (λ (s : Writing). Comes g.S.LockSpace c.args.space.now c.args.self.now (play (rest_of_writing s c.args.ticket)) c.end_under.new.space c.end_under.new.self (closing (Answers reply.Ok))) (sym c.in-Commit.is)
    (c.end_under.ensures.run (λ _. Give reply.Ok))
