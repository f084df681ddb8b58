-- The check of both, and then each change.
use Rattle.mdl_defs.specs.declared.change.Change.TheVariants as change
use Rattle.mdl_rows.specs.declared.reply.Reply.{Reply}
use Rattle.mdl_rows.specs.declared.reply.Reply.TheVariants as reply
use Rattle.mdl_rows.specs.Rows.{Row, Give, redefine, ◌>>◌}
use Rattle.mdl_stmt.proofs.RunLemmas.{comes-then}
use Rattle.mdl_stmt.proofs.player.Player.move_definition.Goals as goal

pub returns-in-Err-clause-run : goal.returns-in-Err-clause-run
returns-in-Err-clause-run g c =
    let last : Row Reply = redefine c.args.from change.Drop >> Give reply.Ok in
    (rw c.in-Err.is at c.all_can_change.ensures.run) (λ _. redefine c.args.to (change.Put c.args.definition) >> last)

pub returns-in-Err-redefine-clause-run : goal.returns-in-Err-redefine-clause-run
returns-in-Err-redefine-clause-run g c =
    let last : Row Reply = redefine c.args.from change.Drop >> Give reply.Ok in
    comes-then ((rw c.in_default.is at c.all_can_change.ensures.run) (λ _. redefine c.args.to (change.Put c.args.definition) >> last))
    ((rw c.in-Err-redefine.is at c.redefine.ensures.run) (λ _. last))

pub returns-in-Ok-clause-run : goal.returns-in-Ok-clause-run
returns-in-Ok-clause-run g c =
    let last : Row Reply = redefine c.args.from change.Drop >> Give reply.Ok in
    comes-then ((rw c.in_default.is at c.all_can_change.ensures.run) (λ _. redefine c.args.to (change.Put c.args.definition) >> last))
    (comes-then ((rw c.in_default-redefine.is at c.redefine.ensures.run) (λ _. last))
    ((rw c.in-Ok.is at c.redefine-2.ensures.run) (λ _. Give reply.Ok)))

pub returns-in-Err-redefine-2-clause-run : goal.returns-in-Err-redefine-2-clause-run
returns-in-Err-redefine-2-clause-run g c =
    let last : Row Reply = redefine c.args.from change.Drop >> Give reply.Ok in
    comes-then ((rw c.in_default.is at c.all_can_change.ensures.run) (λ _. redefine c.args.to (change.Put c.args.definition) >> last))
    (comes-then ((rw c.in_default-redefine.is at c.redefine.ensures.run) (λ _. last))
    ((rw c.in-Err-redefine-2.is at c.redefine-2.ensures.run) (λ _. Give reply.Ok)))
