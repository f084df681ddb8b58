-- The session has no global read lock of its own, and locked tables or none.
use Rattle.std.proofs.Common.{true, false, sym, ap, ◌∙◌}
use Rattle.std.specs.Prelude.{is_some}
use Rattle.mdl_rows.specs.Playing.{play}
use Rattle.mdl_stmt.specs.Players.{PlayerView}
use Rattle.mdl_rows.specs.States.{has_locked}
use Rattle.mdl_rows.specs.Statements.{after_commit, alter_among_locked, alter_first, commit_first}
use Rattle.mdl_stmt.proofs.AlterLemmas.{first-so}
use Rattle.mdl_stmt.proofs.RunLemmas.{comes-as, comes-played, comes-same}
use Rattle.mdl_stmt.proofs.player.Player.alter_first.Goals as goal

pub returns-then-has_locked-clause-run : goal.returns-then-has_locked-clause-run
returns-then-has_locked-clause-run g c =
    let table = c.args.table.now in
    let after = after_commit c.args.statement.now in
    let rest = alter_among_locked table after in
    let some = sym (ap (λ (p : PlayerView). has_locked p.state.locked) c.self.view_is) ∙ sym c.has_locked.ensures ∙ c.if-has_locked.true in
    let free = sym (ap (λ (p : PlayerView). is_some p.state.read_lock) c.self.view_is) ∙ sym c.has_read_lock.ensures ∙ c.if-has_read_lock.false in
    comes-played c.alter_among_locked.new.space c.alter_among_locked.new.self (alter_first table after) rest c.alter_among_locked.result
    (comes-as (play (alter_first table after)) (play rest) (first-so c.args.self.now table after true free some)
    (comes-same g.S.LockSpace c.args.space.now c.args.self.now (play rest))) c.alter_among_locked.ensures.run

pub returns-clause-run : goal.returns-clause-run
returns-clause-run g c =
    let table = c.args.table.now in
    let after = after_commit c.args.statement.now in
    let rest = commit_first after in
    let none = sym (ap (λ (p : PlayerView). has_locked p.state.locked) c.self.view_is) ∙ sym c.has_locked.ensures ∙ c.if-has_locked.false in
    let free = sym (ap (λ (p : PlayerView). is_some p.state.read_lock) c.self.view_is) ∙ sym c.has_read_lock.ensures ∙ c.if-has_read_lock.false in
    comes-played c.commit_first.new.space c.commit_first.new.self (alter_first table after) rest c.commit_first.result
    (comes-as (play (alter_first table after)) (play rest) (first-so c.args.self.now table after false free none)
    (comes-same g.S.LockSpace c.args.space.now c.args.self.now (play rest))) c.commit_first.ensures.run
