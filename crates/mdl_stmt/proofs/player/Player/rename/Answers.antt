-- Memory for the keys was there, and their locks were asked for.
use Rattle.std.proofs.Common.{List, [], ◌∷◌, map, ◌∙◌, ap, subst}
use Rattle.mdl_key.specs.Keys.{KeyName, global_key}
use Rattle.mdl_rows.specs.declared.reply.Reply.{Reply}
use Rattle.mdl_stmt.specs.Gets.{IsPlayed}
use Rattle.mdl_rows.specs.KeyOrder.{in_key_order}
use Rattle.mdl_stmt.specs.LockLists.{LockList}
use Rattle.mdl_rows.specs.Rows.{Row, Room}
use Rattle.mdl_stmt.specs.Stages.{rename_scopes}
use Rattle.mdl_rows.specs.Statements.{both_scopes, schema_of}
use Rattle.mdl_stmt.proofs.CallLemmas.{room-found}
use Rattle.mdl_stmt.proofs.RunLemmas.{comes-played}
use Rattle.mdl_stmt.proofs.player.Player.rename.Goals as goal

pub returns-in-Ok-scopes_of-clause-run : goal.returns-in-Ok-scopes_of-clause-run
returns-in-Ok-scopes_of-clause-run g c =
    let locks : LockList = record { keys = both_scopes c.args.from.now c.args.to.now; tickets = [] } in
    let row : LockList → Row Reply = λ l. rename_scopes c.args.from.now c.args.to.now l l.keys in
    comes-played c.lock_rename_scopes.new.space c.lock_rename_scopes.new.self (Room (row locks)) (row locks) c.lock_rename_scopes.result (room-found (row locks))
    (subst (λ (l : LockList). IsPlayed g.S.LockSpace (row l) c.args.space.now c.args.self.now c.lock_rename_scopes.result c.lock_rename_scopes.new.space c.lock_rename_scopes.new.self)
    (c.in-Ok-scopes_of.ensures ∙ ap (λ (t : List KeyName). record { keys = global_key ∷ in_key_order (map schema_of t); tickets = [] }) c.in-Ok.ensures) c.lock_rename_scopes.ensures.run)
