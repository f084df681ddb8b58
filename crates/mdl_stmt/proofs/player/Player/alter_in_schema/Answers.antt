-- Whether the session has locked tables is looked at.
use Rattle.std.proofs.Common.{true, false, sym, ap, ◌∙◌}
use Rattle.mdl_rows.specs.Playing.{play}
use Rattle.mdl_stmt.specs.Players.{PlayerView}
use Rattle.mdl_rows.specs.States.{has_locked}
use Rattle.mdl_rows.specs.Statements.{alter_in_schema, alter_locked, alter_unlocked}
use Rattle.mdl_stmt.proofs.AlterLemmas.{in_schema-so}
use Rattle.mdl_stmt.proofs.RunLemmas.{comes-as, comes-played, comes-same}
use Rattle.mdl_stmt.proofs.player.Player.alter_in_schema.Goals as goal

pub returns-then-has_locked-clause-run : goal.returns-then-has_locked-clause-run
returns-then-has_locked-clause-run g c =
    let rest = alter_locked c.args.alteration.now in
    let some = sym (ap (λ (p : PlayerView). has_locked p.state.locked) c.self.view_is) ∙ sym c.has_locked.ensures ∙ c.if-has_locked.true in
    comes-played c.alter_locked.new.space c.alter_locked.new.self (alter_in_schema c.args.alteration.now) rest c.alter_locked.result
    (comes-as (play (alter_in_schema c.args.alteration.now)) (play rest) (in_schema-so c.args.self.now c.args.alteration.now true some)
    (comes-same g.S.LockSpace c.args.space.now c.args.self.now (play rest))) c.alter_locked.ensures.run

pub returns-clause-run : goal.returns-clause-run
returns-clause-run g c =
    let rest = alter_unlocked c.args.alteration.now in
    let none = sym (ap (λ (p : PlayerView). has_locked p.state.locked) c.self.view_is) ∙ sym c.has_locked.ensures ∙ c.if-has_locked.false in
    comes-played c.alter_unlocked.new.space c.alter_unlocked.new.self (alter_in_schema c.args.alteration.now) rest c.alter_unlocked.result
    (comes-as (play (alter_in_schema c.args.alteration.now)) (play rest) (in_schema-so c.args.self.now c.args.alteration.now false none)
    (comes-same g.S.LockSpace c.args.space.now c.args.self.now (play rest))) c.alter_unlocked.ensures.run
