-- Whether a transaction is open, and whether it wrote, decides what is done.
use Rattle.std.proofs.Common.{sym, ap, ◌∙◌}
use Rattle.mdl_stmt.specs.Players.{PlayerView}
use Rattle.mdl_stmt.proofs.RunLemmas.{commit-looked, commit-plain}
use Rattle.mdl_stmt.proofs.player.Player.commit.Goals as goal

pub returns-then-self-clause-run : goal.returns-then-self-clause-run
returns-then-self-clause-run g c =
    commit-looked g.S.LockSpace c.args.self.now c.commit_writes.new.self c.commit_writes.result c.args.space.now c.commit_writes.new.space
    (sym (ap (λ (p : PlayerView). p.state.is_open) c.self.view_is) ∙ c.if-not-self.false) (sym (ap (λ (p : PlayerView). p.state.has_written) c.self.view_is) ∙ c.if-self.true) c.commit_writes.ensures.run

pub returns-clause-run : goal.returns-clause-run
returns-clause-run g c =
    commit-plain g.S.LockSpace c.args.self.now c.end_transaction.new.self c.args.space.now c.end_transaction.new.space
    (sym (ap (λ (p : PlayerView). p.state.is_open) c.self.view_is) ∙ c.if-not-self.false) (sym (ap (λ (p : PlayerView). p.state.has_written) c.self.view_is) ∙ c.if-self.false) c.end_transaction.ensures.run
