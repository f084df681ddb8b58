-- Each check of each table, and then the changes.
use Rattle.mdl_defs.specs.declared.change.Change.TheVariants as change
use Rattle.mdl_rows.specs.declared.reply.Reply.{Reply}
use Rattle.mdl_rows.specs.declared.reply.Reply.TheVariants as reply
use Rattle.mdl_rows.specs.Rows.{Row, Give, for_each, redefine, ◌>>◌}
use Rattle.mdl_rows.specs.Statements.{can_change}
use Rattle.mdl_stmt.proofs.RunLemmas.{comes-then}
use Rattle.mdl_stmt.proofs.player.Player.drop_under.Goals as goal

pub returns-in-Err-all_can_change-clause-run : goal.returns-in-Err-all_can_change-clause-run
returns-in-Err-all_can_change-clause-run g c =
    let changes : Row Reply = for_each (λ ticket. redefine ticket change.Drop) c.args.tickets.now >> Give reply.Ok in
    comes-then ((rw c.in_default.is at c.all_stand.ensures.run) (λ _. for_each can_change c.args.tickets.now >> changes))
    ((rw c.in-Err-all_can_change.is at c.all_can_change.ensures.run) (λ _. changes))

pub returns-in-Ok-clause-run : goal.returns-in-Ok-clause-run
returns-in-Ok-clause-run g c =
    let changes : Row Reply = for_each (λ ticket. redefine ticket change.Drop) c.args.tickets.now >> Give reply.Ok in
    comes-then ((rw c.in_default.is at c.all_stand.ensures.run) (λ _. for_each can_change c.args.tickets.now >> changes))
    (comes-then ((rw c.in_default-all_can_change.is at c.all_can_change.ensures.run) (λ _. changes))
    ((rw c.in-Ok.is at c.drop_all.ensures.run) (λ _. Give reply.Ok)))

pub returns-in-Err-drop_all-clause-run : goal.returns-in-Err-drop_all-clause-run
returns-in-Err-drop_all-clause-run g c =
    let changes : Row Reply = for_each (λ ticket. redefine ticket change.Drop) c.args.tickets.now >> Give reply.Ok in
    comes-then ((rw c.in_default.is at c.all_stand.ensures.run) (λ _. for_each can_change c.args.tickets.now >> changes))
    (comes-then ((rw c.in_default-all_can_change.is at c.all_can_change.ensures.run) (λ _. changes))
    ((rw c.in-Err-drop_all.is at c.drop_all.ensures.run) (λ _. Give reply.Ok)))
