-- Memory for the keys was there, and their locks were asked for.
use Rattle.std.proofs.Common.{List, [], ◌∙◌, ap, subst}
use Rattle.mdl_syntax.specs.declared.table_locks.TableLock.{TableLock}
use Rattle.mdl_syntax.specs.Forms.{tables_of}
use Rattle.mdl_rows.specs.declared.reply.Reply.{Reply}
use Rattle.mdl_stmt.specs.Gets.{IsPlayed}
use Rattle.mdl_rows.specs.KeyOrder.{in_key_order}
use Rattle.mdl_stmt.specs.LockLists.{LockList}
use Rattle.mdl_rows.specs.Rows.{Row, Room}
use Rattle.mdl_stmt.specs.Stages.{lock_rest_by}
use Rattle.mdl_rows.specs.Statements.{keep_locked, table_lock}
use Rattle.mdl_stmt.proofs.CallLemmas.{room-found}
use Rattle.mdl_stmt.proofs.RunLemmas.{comes-played}
use Rattle.mdl_stmt.proofs.player.Player.lock_named.Goals as goal

pub returns-in-Ok-clause-run : goal.returns-in-Ok-clause-run
returns-in-Ok-clause-run g c =
    let locks : LockList = record { keys = in_key_order (tables_of c.args.tables.now); tickets = [] } in
    let row : LockList → Row Reply = λ l. lock_rest_by (table_lock c.args.tables.now) l (keep_locked c.args.tables.now l.keys c.args.scopes.items) in
    comes-played c.lock_each_named.new.space c.lock_each_named.new.self (Room (row locks)) (row locks) c.lock_each_named.result (room-found (row locks))
    (subst (λ (l : LockList). IsPlayed g.S.LockSpace (row l) c.args.space.now c.args.self.now c.lock_each_named.result c.lock_each_named.new.space c.lock_each_named.new.self)
    (c.in-Ok.ensures ∙ ap (λ (t : List TableLock). record { keys = in_key_order (tables_of t); tickets = [] }) c.as_slice.ensures) c.lock_each_named.ensures.run)
