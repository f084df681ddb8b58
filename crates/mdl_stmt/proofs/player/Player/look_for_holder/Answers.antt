-- The lock is had and released, another session holds it, or it is missed.
use Rattle.mdl_rows.specs.declared.reply.Reply.TheVariants as reply
use Rattle.mdl_rows.specs.Rows.{Give}
use Rattle.mdl_rows.specs.Statements.{given}
use Rattle.mdl_stmt.proofs.RunLemmas.{comes-then}
use Rattle.mdl_stmt.proofs.player.Player.look_for_holder.Goals as goal

pub returns-in-Ok-Some-clause-run : goal.returns-in-Ok-Some-clause-run
returns-in-Ok-Some-clause-run g c =
    comes-then ((rw (c.in-Ok-Some.is, c.in-Ok-Some.field-0-is) at c.try_to_get.ensures.run) given) (c.release.ensures.run (λ _. Give reply.Null))

pub returns-in-Ok-None-clause-run : goal.returns-in-Ok-None-clause-run
returns-in-Ok-None-clause-run g c = (rw (c.in-Ok-None.is, c.in-Ok-None.field-0-is) at c.try_to_get.ensures.run) given

pub returns-in-Err-clause-run : goal.returns-in-Err-clause-run
returns-in-Err-clause-run g c = (rw c.in-Err.is at c.try_to_get.ensures.run) given
