-- The ticket that was gained last goes, or another session is looked for.
use Rattle.std.proofs.Common.{◌≡◌, true, Some, None, ◌∙◌, ap, sym, subst}
use Rattle.mdl_key.specs.Keys.{KeyName, user_lock_key}
use Rattle.mdl_context.specs.Contexts.{last_ticket}
use Rattle.mdl_rows.specs.declared.reply.Reply.TheVariants as reply
use Rattle.mdl_rows.specs.Endings.{closing}
use Rattle.mdl_rows.specs.Playing.{play}
use Rattle.mdl_rows.specs.Rows.{Give}
use Rattle.mdl_rows.specs.Statements.{give_back}
use Rattle.mdl_stmt.specs.Gets.{Comes}
use Rattle.mdl_stmt.specs.Players.{PlayerView}
use Rattle.mdl_stmt.proofs.RunLemmas.{comes-then, looked-up}
use Rattle.mdl_stmt.proofs.player.Player.release_lock.Goals as goal

pub returns-in-Some-clause-run : goal.returns-in-Some-clause-run
returns-in-Some-clause-run g c =
    let key = c.in-Ok.ensures.made ∙ ap user_lock_key c.as_str.ensures in
    let held : last_ticket (user_lock_key c.args.name.now) c.args.self.now.context ≡ Some c.in-Some.last =
    sym (ap (λ (p : PlayerView). last_ticket (user_lock_key c.args.name.now) p.context) c.self.view_is) ∙ sym (ap (λ (k : KeyName). last_ticket k c.self.inside.context) key) ∙ sym c.last_ticket.ensures ∙ c.in-Some.is in
    comes-then (looked-up g.S.LockSpace c.args.name.now (Some c.in-Some.last) c.args.self.now c.args.space.now held) (c.release.ensures.run (λ _. Give (reply.Number true)))

pub returns-clause-run : goal.returns-clause-run
returns-clause-run g c =
    let key = c.in-Ok.ensures.made ∙ ap user_lock_key c.as_str.ensures in
    let held : last_ticket (user_lock_key c.args.name.now) c.args.self.now.context ≡ None =
    sym (ap (λ (p : PlayerView). last_ticket (user_lock_key c.args.name.now) p.context) c.self.view_is) ∙ sym (ap (λ (k : KeyName). last_ticket k c.self.inside.context) key) ∙ sym c.last_ticket.ensures ∙ c.in-None.is in
    comes-then (looked-up g.S.LockSpace c.args.name.now None c.args.self.now c.args.space.now held)
    (subst (λ (k : KeyName). Comes g.S.LockSpace c.args.space.now c.args.self.now (play (give_back k None)) c.look_for_holder.new.space c.look_for_holder.new.self (closing c.look_for_holder.result)) key c.look_for_holder.ensures.run)
