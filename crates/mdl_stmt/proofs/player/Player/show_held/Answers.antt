-- The table is found among the locked ones, and shown.
use Rattle.std.proofs.Common.{sym, ap, ◌∙◌}
use Rattle.std.specs.Prelude.{find}
use Rattle.mdl_key.specs.Keys.{key_eq}
use Rattle.mdl_rows.specs.declared.state.Locked.{Locked}
use Rattle.mdl_stmt.specs.Players.{PlayerView}
use Rattle.mdl_stmt.proofs.UnlockLemmas.{held-step}
use Rattle.mdl_stmt.proofs.player.Player.show_held.Goals as goal

pub returns-clause-run : goal.returns-clause-run
returns-clause-run g c =
    held-step g.S.LockSpace c.args.table.now c.in-Some.locked.now c.args.space.now c.args.self.now
    (sym (ap (λ (p : PlayerView). find (λ (l : Locked). key_eq c.args.table.now l.key) p.state.locked) c.self.view_is) ∙ sym (rw c.in-Some.is at c.find.ensures))
    c.args.shown c.show.new.space c.show.new.self c.show.result c.show.ensures.run
