-- The table is found among the locked ones, and may be written.
use Rattle.std.proofs.Common.{sym, ap, ◌∙◌}
use Rattle.std.specs.Prelude.{find}
use Rattle.mdl_key.specs.Keys.{key_eq}
use Rattle.mdl_rows.specs.declared.state.Locked.{Locked}
use Rattle.mdl_rows.specs.Playing.{play}
use Rattle.mdl_stmt.specs.Players.{PlayerView}
use Rattle.mdl_rows.specs.Statements.{after_commit, alter_among_locked, commit_first}
use Rattle.mdl_stmt.proofs.AlterLemmas.{among-so}
use Rattle.mdl_stmt.proofs.RunLemmas.{comes-as, comes-played, comes-same}
use Rattle.mdl_stmt.proofs.player.Player.alter_among_locked.Goals as goal

pub returns-clause-run : goal.returns-clause-run
returns-clause-run g c =
    let table = c.args.table.now in
    let after = after_commit c.args.statement.now in
    let rest = commit_first after in
    let found = sym (ap (λ (p : PlayerView). find (λ (l : Locked). key_eq table l.key) p.state.locked) c.self.view_is) ∙ sym (rw c.in-Some.is at c.find.ensures) in
    comes-played c.commit_first.new.space c.commit_first.new.self (alter_among_locked table after) rest c.commit_first.result
    (comes-as (play (alter_among_locked table after)) (play rest) (among-so c.args.self.now table c.in-Some.locked.now after found c.if-not-locked.false)
    (comes-same g.S.LockSpace c.args.space.now c.args.self.now (play rest)))
    c.commit_first.ensures.run
