-- Memory for the keys was there, and their locks were asked for.
use Rattle.std.proofs.Common.{List, [], ◌∷◌, map, ◌∙◌, ap, subst}
use Rattle.mdl_key.specs.Keys.{KeyName, global_key}
use Rattle.mdl_rows.specs.declared.reply.Reply.{Reply}
use Rattle.mdl_stmt.specs.Gets.{IsPlayed}
use Rattle.mdl_rows.specs.KeyOrder.{in_key_order}
use Rattle.mdl_stmt.specs.LockLists.{LockList}
use Rattle.mdl_rows.specs.Rows.{Row, Room}
use Rattle.mdl_stmt.specs.Stages.{lock_rest}
use Rattle.mdl_rows.specs.Statements.{lock_and_drop, schema_of}
use Rattle.mdl_stmt.proofs.CallLemmas.{room-found}
use Rattle.mdl_stmt.proofs.RunLemmas.{comes-played}
use Rattle.mdl_stmt.proofs.player.Player.drop_tables.Goals as goal

pub returns-in-Ok-clause-run : goal.returns-in-Ok-clause-run
returns-in-Ok-clause-run g c =
    let locks : LockList = record { keys = global_key ∷ in_key_order (map schema_of c.args.tables.now); tickets = [] } in
    let row : Row Reply = lock_rest locks (λ scopes. lock_and_drop c.args.tables.now) in
    comes-played c.lock_scopes.new.space c.lock_scopes.new.self (Room row) row c.lock_scopes.result (room-found row)
    (subst (λ (l : LockList). IsPlayed g.S.LockSpace (lock_rest l (λ scopes. lock_and_drop c.args.tables.now)) c.args.space.now c.args.self.now c.lock_scopes.result c.lock_scopes.new.space c.lock_scopes.new.self)
    (c.in-Ok.ensures ∙ ap (λ (t : List KeyName). record { keys = global_key ∷ in_key_order (map schema_of t); tickets = [] }) c.as_slice.ensures) c.lock_scopes.ensures.run)
