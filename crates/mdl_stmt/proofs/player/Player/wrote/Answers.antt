-- A write in no transaction is committed.
use Rattle.std.proofs.Common.{sym, ap, ◌∙◌}
use Rattle.mdl_rows.specs.declared.reply.Reply.TheVariants as reply
use Rattle.mdl_rows.specs.Playing.{play}
use Rattle.mdl_rows.specs.Rows.{Give, ◌>>◌}
use Rattle.mdl_stmt.specs.Players.{PlayerView}
use Rattle.mdl_rows.specs.Statements.{commit_writes, wrote}
use Rattle.mdl_stmt.proofs.RunLemmas.{comes-as, waits-as, wrote-so}
use Rattle.mdl_stmt.proofs.player.Player.wrote.Goals as goal

pub returns-in-Had-clause-run : goal.returns-in-Had-clause-run
returns-in-Had-clause-run g c =
    comes-as (play wrote) (play (commit_writes >> Give reply.Ok)) (wrote-so g.S.LockSpace c.args.self.now (sym (ap (λ (p : PlayerView). p.state.is_open) c.self.view_is) ∙ c.if-self.false))
    ((rw c.in-Had.is at c.commit_writes.ensures.run) (Give reply.Ok))

pub returns-in-Waits-clause-run : goal.returns-in-Waits-clause-run
returns-in-Waits-clause-run g c =
    waits-as (play wrote) (play (commit_writes >> Give reply.Ok)) (wrote-so g.S.LockSpace c.args.self.now (sym (ap (λ (p : PlayerView). p.state.is_open) c.self.view_is) ∙ c.if-self.false))
    ((rw c.in-Waits.is at c.commit_writes.ensures.run) (Give reply.Ok))

pub returns-in-Ends-clause-run : goal.returns-in-Ends-clause-run
returns-in-Ends-clause-run g c =
    comes-as (play wrote) (play (commit_writes >> Give reply.Ok)) (wrote-so g.S.LockSpace c.args.self.now (sym (ap (λ (p : PlayerView). p.state.is_open) c.self.view_is) ∙ c.if-self.false))
    ((rw c.in-Ends.is at c.commit_writes.ensures.run) (Give reply.Ok))
