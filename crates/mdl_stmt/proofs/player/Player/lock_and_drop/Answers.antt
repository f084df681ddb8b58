-- Memory for the keys was there, and their locks were asked for.
use Rattle.std.proofs.Common.{List, [], ◌∙◌, ap, subst}
use Rattle.mdl_key.specs.Keys.{KeyName}
use Rattle.mdl_stmt.specs.Gets.{IsPlayed}
use Rattle.mdl_rows.specs.KeyOrder.{in_key_order}
use Rattle.mdl_stmt.specs.LockLists.{LockList}
use Rattle.mdl_rows.specs.Rows.{Room}
use Rattle.mdl_stmt.specs.Stages.{lock_rest}
use Rattle.mdl_rows.specs.Statements.{drop_under}
use Rattle.mdl_stmt.proofs.CallLemmas.{room-found}
use Rattle.mdl_stmt.proofs.RunLemmas.{comes-played}
use Rattle.mdl_stmt.proofs.player.Player.lock_and_drop.Goals as goal

pub returns-in-Ok-clause-run : goal.returns-in-Ok-clause-run
returns-in-Ok-clause-run g c =
    let locks : LockList = record { keys = in_key_order c.args.tables.now; tickets = [] } in
    comes-played c.lock_tables.new.space c.lock_tables.new.self (Room (lock_rest locks drop_under)) (lock_rest locks drop_under) c.lock_tables.result
    (room-found (lock_rest locks drop_under))
    (subst (λ (l : LockList). IsPlayed g.S.LockSpace (lock_rest l drop_under) c.args.space.now c.args.self.now c.lock_tables.result c.lock_tables.new.space c.lock_tables.new.self)
    (c.in-Ok.ensures ∙ ap (λ (t : List KeyName). record { keys = in_key_order t; tickets = [] }) c.as_slice.ensures) c.lock_tables.ensures.run)
