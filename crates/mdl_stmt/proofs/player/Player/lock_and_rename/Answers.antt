-- Memory for the keys was there, and their locks were asked for.
use Rattle.std.proofs.Common.{◌≡◌, ℕ, List, [], ◌∙◌, ap, subst}
use Rattle.mdl_key.specs.Keys.{KeyName}
use Rattle.mdl_rows.specs.declared.reply.Reply.{Reply}
use Rattle.mdl_stmt.specs.Gets.{IsPlayed}
use Rattle.mdl_rows.specs.KeyOrder.{in_key_order}
use Rattle.mdl_rows.specs.KeyOrder.{locked_ticket}
use Rattle.mdl_stmt.specs.LockLists.{LockList}
use Rattle.mdl_rows.specs.Rows.{Row, Room}
use Rattle.mdl_stmt.specs.Stages.{rename_names}
use Rattle.mdl_rows.specs.Statements.{both_names, schema_of}
use Rattle.mdl_stmt.proofs.CallLemmas.{room-found}
use Rattle.mdl_stmt.proofs.RunLemmas.{comes-played}
use Rattle.mdl_stmt.proofs.player.Player.lock_and_rename.Goals as goal

pub returns-in-Ok-in_key_order-clause-run : goal.returns-in-Ok-in_key_order-clause-run
returns-in-Ok-in_key_order-clause-run g c =
    let locks : LockList = record { keys = both_names c.args.from.now c.args.to.now; tickets = [] } in
    let schema : ℕ = locked_ticket (schema_of c.args.to.now) c.args.scopes.now.keys c.args.scopes.now.tickets in
    let row : ℕ → LockList → Row Reply = λ n l. rename_names c.args.from.now c.args.to.now n l l.keys in
    let is : c.ticket_of-schema.result ≡ schema = c.ticket_of-schema.ensures ∙ ap (λ (key : KeyName). locked_ticket key c.args.scopes.now.keys c.args.scopes.now.tickets) c.in-Ok.ensures.made in
    comes-played c.lock_names.new.space c.lock_names.new.self (Room (row schema locks)) (row schema locks) c.lock_names.result (room-found (row schema locks))
    (subst (λ (n : ℕ). IsPlayed g.S.LockSpace (row n locks) c.args.space.now c.args.self.now c.lock_names.result c.lock_names.new.space c.lock_names.new.self) is
    (subst (λ (l : LockList). IsPlayed g.S.LockSpace (row c.ticket_of-schema.result l) c.args.space.now c.args.self.now c.lock_names.result c.lock_names.new.space c.lock_names.new.self)
    (c.in-Ok-in_key_order.ensures ∙ ap (λ (t : List KeyName). record { keys = in_key_order t; tickets = [] }) c.in-Ok-both.ensures) c.lock_names.ensures.run))
