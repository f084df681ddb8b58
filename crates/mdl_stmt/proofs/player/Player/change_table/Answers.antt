-- The change is made, or memory is wanting.
use Rattle.mdl_rows.specs.declared.reply.Reply.TheVariants as reply
use Rattle.mdl_rows.specs.Rows.{Give}
use Rattle.mdl_stmt.proofs.player.Player.change_table.Goals as goal

pub returns-in-Ok-clause-run : goal.returns-in-Ok-clause-run
returns-in-Ok-clause-run g c = (rw c.in-Ok.is at c.redefine.ensures.run) (λ _. Give reply.Ok)

pub returns-in-Err-clause-run : goal.returns-in-Err-clause-run
returns-in-Err-clause-run g c = (rw c.in-Err.is at c.redefine.ensures.run) (λ _. Give reply.Ok)
