-- Each check, and then the change.
use Rattle.mdl_defs.specs.declared.change.Change.TheVariants.{Create}
use Rattle.mdl_defs.specs.declared.definition.Definition.TheVariants.{Schema}
use Rattle.mdl_rows.specs.declared.reply.Reply.TheVariants as reply
use Rattle.mdl_rows.specs.Rows.{Give, redefine, ◌>>◌}
use Rattle.mdl_stmt.proofs.RunLemmas.{comes-then}
use Rattle.mdl_stmt.proofs.player.Player.create_schema_under.Goals as goal

pub returns-in-Err-clause-run : goal.returns-in-Err-clause-run
returns-in-Err-clause-run g c = (rw c.in-Err.is at c.check_new_schema.ensures.run) (λ _. redefine c.args.ticket (Create Schema) >> Give reply.Ok)

pub returns-in-Ok-clause-run : goal.returns-in-Ok-clause-run
returns-in-Ok-clause-run g c =
    comes-then ((rw c.in_default.is at c.check_new_schema.ensures.run) (λ _. redefine c.args.ticket (Create Schema) >> Give reply.Ok))
    ((rw c.in-Ok.is at c.redefine.ensures.run) (λ _. Give reply.Ok))

pub returns-in-Err-redefine-clause-run : goal.returns-in-Err-redefine-clause-run
returns-in-Err-redefine-clause-run g c =
    comes-then ((rw c.in_default.is at c.check_new_schema.ensures.run) (λ _. redefine c.args.ticket (Create Schema) >> Give reply.Ok))
    ((rw c.in-Err-redefine.is at c.redefine.ensures.run) (λ _. Give reply.Ok))
