-- Each statement that has something left does it.
use Rattle.mdl_rows.specs.declared.reply.Reply.TheVariants as reply
use Rattle.mdl_rows.specs.Rows.{Give}
use Rattle.mdl_rows.specs.Statements.{after_commit}
use Rattle.mdl_stmt.proofs.AttendanceLemmas.{goes_on-still}
use Rattle.mdl_stmt.proofs.CallLemmas.{comes-row}
use Rattle.mdl_stmt.proofs.RowLemmas.{after-others}
use Rattle.mdl_stmt.proofs.player.Player.after_commit.Goals as goal

pub returns-in_default : goal.returns-in_default
returns-in_default g c = record {
  run = comes-row (after_commit c.args.statement.now) (Give reply.Ok) (after-others c.args.statement.now c.in_default.not-Begin c.in_default.not-CreateTable c.in_default.not-CreateSchema c.in_default.not-DropTables c.in_default.not-DropSchema c.in_default.not-RenameTable c.in_default.not-AlterTable c.in_default.not-LockTables c.in_default.not-FlushTablesWithReadLock);
  goes_on = goes_on-still c.requires.ready.attends c.requires.ready.met;
  idle = c.requires.ready.idle;
}

pub returns-in-CreateTable-clause-run : goal.returns-in-CreateTable-clause-run
returns-in-CreateTable-clause-run g c = rw c.in-CreateTable.is c.create.ensures.run
