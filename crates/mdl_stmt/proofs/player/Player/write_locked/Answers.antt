-- The table is found among the locked ones, and may be written.
use Rattle.std.proofs.Common.{sym, ap, ◌∙◌}
use Rattle.std.specs.Prelude.{find}
use Rattle.mdl_key.specs.Keys.{key_eq}
use Rattle.mdl_rows.specs.declared.state.Locked.{Locked}
use Rattle.mdl_rows.specs.Playing.{play}
use Rattle.mdl_stmt.specs.Players.{PlayerView}
use Rattle.mdl_rows.specs.Statements.{write_locked, wrote}
use Rattle.mdl_stmt.proofs.RunLemmas.{comes-as, comes-played, comes-same}
use Rattle.mdl_stmt.proofs.UnlockLemmas.{written-so}
use Rattle.mdl_stmt.proofs.player.Player.write_locked.Goals as goal

pub returns-clause-run : goal.returns-clause-run
returns-clause-run g c =
    let found = sym (ap (λ (p : PlayerView). find (λ (l : Locked). key_eq c.args.table.now l.key) p.state.locked) c.self.view_is) ∙ sym (rw c.in-Some.is at c.find.ensures) in
    comes-played c.wrote.new.space c.wrote.new.self (write_locked c.args.table.now) wrote c.wrote.result
    (comes-as (play (write_locked c.args.table.now)) (play wrote) (written-so g.S.LockSpace c.args.table.now c.in-Some.locked.now c.args.space.now c.args.self.now found c.if-not-locked.false) (comes-same g.S.LockSpace c.args.space.now c.args.self.now (play wrote)))
    c.wrote.ensures.run
