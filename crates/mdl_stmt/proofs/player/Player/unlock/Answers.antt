-- Locked tables are given up, and then the global read lock.
use Rattle.mdl_rows.specs.declared.reply.Reply.TheVariants as reply
use Rattle.mdl_rows.specs.Rows.{Give, ◌>>◌}
use Rattle.mdl_rows.specs.Statements.{give_up_read_lock}
use Rattle.mdl_stmt.proofs.RunLemmas.{comes-then}
use Rattle.mdl_stmt.proofs.player.Player.unlock.Goals as goal

pub returns-clause-run : goal.returns-clause-run
returns-clause-run g c = comes-then (c.unlock_tables.ensures.run (λ _. give_up_read_lock >> Give reply.Ok)) (c.give_up_read_lock.ensures.run (λ _. Give reply.Ok))
