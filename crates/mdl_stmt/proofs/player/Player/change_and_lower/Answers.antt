-- The change is made and the lock is what it was, or memory is wanting.
use Rattle.mdl_key.specs.declared.mode.Mode.TheVariants.{SNRW}
use Rattle.mdl_rows.specs.declared.reply.Reply.TheVariants as reply
use Rattle.mdl_rows.specs.Rows.{Give, downgrade, ◌>>◌}
use Rattle.mdl_stmt.proofs.RunLemmas.{comes-then}
use Rattle.mdl_stmt.proofs.player.Player.change_and_lower.Goals as goal

pub returns-in-Ok-clause-run : goal.returns-in-Ok-clause-run
returns-in-Ok-clause-run g c =
    comes-then ((rw c.in-Ok.is at c.redefine.ensures.run) (λ _. downgrade c.args.ticket SNRW >> Give reply.Ok))
    (c.lower.ensures.run (λ _. Give reply.Ok))

pub returns-in-Err-clause-run : goal.returns-in-Err-clause-run
returns-in-Err-clause-run g c = (rw c.in-Err.is at c.redefine.ensures.run) (λ _. downgrade c.args.ticket SNRW >> Give reply.Ok)
