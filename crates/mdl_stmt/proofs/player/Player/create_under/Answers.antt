-- Each check, and then the change.
use Rattle.mdl_rows.specs.declared.reply.Reply.TheVariants as reply
use Rattle.mdl_rows.specs.Rows.{Give, ◌>>◌}
use Rattle.mdl_rows.specs.Statements.{check_new, make_table}
use Rattle.mdl_stmt.proofs.RunLemmas.{comes-then}
use Rattle.mdl_stmt.proofs.player.Player.create_under.Goals as goal

pub returns-in-Err-clause-run : goal.returns-in-Err-clause-run
returns-in-Err-clause-run g c =
    (rw c.in-Err.is at c.check_schema.ensures.run) (λ _. check_new c.args.columns.now c.args.ticket >> (make_table c.args.columns.now c.args.ticket >> Give reply.Ok))

pub returns-in-Err-check_new-clause-run : goal.returns-in-Err-check_new-clause-run
returns-in-Err-check_new-clause-run g c =
    comes-then ((rw c.in_default.is at c.check_schema.ensures.run) (λ _. check_new c.args.columns.now c.args.ticket >> (make_table c.args.columns.now c.args.ticket >> Give reply.Ok)))
    ((rw c.in-Err-check_new.is at c.check_new.ensures.run) (λ _. make_table c.args.columns.now c.args.ticket >> Give reply.Ok))

pub returns-in-Ok-clause-run : goal.returns-in-Ok-clause-run
returns-in-Ok-clause-run g c =
    comes-then ((rw c.in_default.is at c.check_schema.ensures.run) (λ _. check_new c.args.columns.now c.args.ticket >> (make_table c.args.columns.now c.args.ticket >> Give reply.Ok)))
    (comes-then ((rw c.in_default-check_new.is at c.check_new.ensures.run) (λ _. make_table c.args.columns.now c.args.ticket >> Give reply.Ok))
    ((rw c.in-Ok.is at c.make_table.ensures.run) (λ _. Give reply.Ok)))

pub returns-in-Err-make_table-clause-run : goal.returns-in-Err-make_table-clause-run
returns-in-Err-make_table-clause-run g c =
    comes-then ((rw c.in_default.is at c.check_schema.ensures.run) (λ _. check_new c.args.columns.now c.args.ticket >> (make_table c.args.columns.now c.args.ticket >> Give reply.Ok)))
    (comes-then ((rw c.in_default-check_new.is at c.check_new.ensures.run) (λ _. make_table c.args.columns.now c.args.ticket >> Give reply.Ok))
    ((rw c.in-Err-make_table.is at c.make_table.ensures.run) (λ _. Give reply.Ok)))
