-- Locked tables are given up, and then a transaction is open.
use Rattle.std.proofs.Common.{ℕ, List, [], true, sym, ap, ◌∙◌, subst}
use Rattle.mdl_rows.specs.declared.ending.Ending.TheVariants.{Answers}
use Rattle.mdl_rows.specs.declared.state.Locked.{Locked}
use Rattle.mdl_rows.specs.declared.reply.Reply.TheVariants as reply
use Rattle.mdl_rows.specs.Endings.{closing}
use Rattle.mdl_stmt.specs.Gets.{Comes}
use Rattle.mdl_rows.specs.Playing.{play}
use Rattle.mdl_rows.specs.Rows.{Give, set, ◌>>◌}
use Rattle.mdl_stmt.specs.Players.{PlayerView, player_of}
use Rattle.mdl_rows.specs.States.{with_open_transaction}
use Rattle.mdl_stmt.specs.Players.{ExplicitLocks}
use Rattle.mdl_stmt.proofs.RunLemmas.{comes-then}
use Rattle.mdl_stmt.proofs.player.Player.begin.Goals as goal

pub returns-clause-run : goal.returns-clause-run
returns-clause-run g c =
    let explicit : ExplicitLocks = c.self.inside.explicit in
    let after : List Locked → List ℕ → PlayerView = λ locked scopes. player_of c.self.inside.cache (record explicit { locked = locked; scopes = scopes }) c.self.inside.context true c.self.inside.has_written c.self.inside.savepoints in
    let none = ap (λ (p : PlayerView). p.state.locked) c.self.view_is ∙ c.unlock_tables.ensures.unlocked.0 in
    let no_scope = ap (λ (p : PlayerView). p.state.scopes) c.self.view_is ∙ c.unlock_tables.ensures.unlocked.1 in
    comes-then (c.unlock_tables.ensures.run (λ _. set with_open_transaction >> Give reply.Ok))
    (subst (λ (p : PlayerView). Comes g.S.LockSpace c.unlock_tables.new.space p (play (set with_open_transaction >> Give reply.Ok)) c.unlock_tables.new.space (after explicit.locked explicit.scopes) (closing (Answers reply.Ok))) c.self.view_is
    (subst (λ (l : List Locked). Comes g.S.LockSpace c.unlock_tables.new.space (player_of c.self.inside.cache explicit c.self.inside.context c.self.inside.is_open c.self.inside.has_written c.self.inside.savepoints) (play (set with_open_transaction >> Give reply.Ok)) c.unlock_tables.new.space (after l explicit.scopes) (closing (Answers reply.Ok))) (sym none)
    (subst (λ (s : List ℕ). Comes g.S.LockSpace c.unlock_tables.new.space (player_of c.self.inside.cache explicit c.self.inside.context c.self.inside.is_open c.self.inside.has_written c.self.inside.savepoints) (play (set with_open_transaction >> Give reply.Ok)) c.unlock_tables.new.space (after [] s) (closing (Answers reply.Ok))) (sym no_scope)
    (record { so = λ mark pause s run. run }))))
