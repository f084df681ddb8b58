-- Earlier tables are given up; memory for the keys was there, or not, and their locks were asked for.
use Rattle.std.proofs.Common.{List, [], ◌∙◌, ap, subst}
use Rattle.mdl_syntax.specs.declared.table_locks.TableLock.{TableLock}
use Rattle.mdl_rows.specs.declared.reply.Reply.{Reply}
use Rattle.mdl_stmt.specs.Gets.{IsPlayed}
use Rattle.mdl_stmt.specs.LockLists.{LockList}
use Rattle.mdl_rows.specs.Rows.{Row, Room}
use Rattle.mdl_stmt.specs.Stages.{lock_rest}
use Rattle.mdl_rows.specs.Statements.{lock_named, lock_tables_after_commit, scopes_around, written_tables}
use Rattle.mdl_stmt.proofs.CallLemmas.{room-found}
use Rattle.mdl_stmt.proofs.LockTableLemmas.{room-missed}
use Rattle.mdl_stmt.proofs.RunLemmas.{comes-played, comes-then}
use Rattle.mdl_stmt.proofs.player.Player.lock_these.Goals as goal

pub returns-in-Ok-clause-run : goal.returns-in-Ok-clause-run
returns-in-Ok-clause-run g c =
    let locks : LockList = record { keys = scopes_around (written_tables c.args.tables.now); tickets = [] } in
    let row : LockList → Row Reply = λ l. lock_rest l (lock_named c.args.tables.now) in
    comes-played c.lock_around.new.space c.lock_around.new.self (lock_tables_after_commit c.args.tables.now) (row locks) c.lock_around.result
    (comes-then (c.unlock_tables.ensures.run (λ _. Room (row locks))) (room-found (row locks)))
    (subst (λ (l : LockList). IsPlayed g.S.LockSpace (row l) c.unlock_tables.new.space c.unlock_tables.new.self c.lock_around.result c.lock_around.new.space c.lock_around.new.self)
    (c.in-Ok.ensures ∙ ap (λ (t : List TableLock). record { keys = scopes_around (written_tables t); tickets = [] }) c.as_slice.ensures) c.lock_around.ensures.run)

pub returns-in-Err-clause-run : goal.returns-in-Err-clause-run
returns-in-Err-clause-run g c =
    let locks : LockList = record { keys = scopes_around (written_tables c.args.tables.now); tickets = [] } in
    let row : Row Reply = lock_rest locks (lock_named c.args.tables.now) in
    comes-then (c.unlock_tables.ensures.run (λ _. Room row)) (room-missed row)
