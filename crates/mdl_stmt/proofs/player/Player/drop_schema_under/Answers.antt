-- The schema is there, its tables are told, and their locks are asked for.
use Rattle.std.proofs.Common.{ℕ, List, [], map, subst}
use Rattle.mdl_key.specs.Keys.{KeyName}
use Rattle.mdl_rows.specs.declared.reply.Reply.{Reply}
use Rattle.mdl_stmt.specs.Gets.{IsPlayed}
use Rattle.mdl_stmt.specs.LockLists.{LockList}
use Rattle.mdl_rows.specs.Rows.{Row, acquire_all, room, ◌>>=◌, ◌>>◌}
use Rattle.mdl_stmt.specs.Stages.{lock_rest}
use Rattle.mdl_rows.specs.Statements.{ddl_lock, drop_schema_under, drop_with, tables_in}
use Rattle.mdl_stmt.proofs.CallLemmas.{room-found}
use Rattle.mdl_stmt.proofs.RunLemmas.{comes-then, comes-played}
use Rattle.mdl_stmt.proofs.ToldKeyLemmas.{room-missed}
use Rattle.mdl_stmt.proofs.player.Player.drop_schema_under.Goals as goal

-- what follows once the tables are told
abbrev locked : ℕ → List KeyName → Row Reply
locked schema tables = room >> (acquire_all (map ddl_lock tables) >>= drop_with schema)

pub returns-in-Err-clause-run : goal.returns-in-Err-clause-run
returns-in-Err-clause-run g c = (rw c.in-Err.is at c.check_schema.ensures.run) (λ _. tables_in c.args.name.now >>= locked c.args.schema)

pub returns-in-Err-tables_in-clause-run : goal.returns-in-Err-tables_in-clause-run
returns-in-Err-tables_in-clause-run g c =
    comes-then ((rw c.in_default.is at c.check_schema.ensures.run) (λ _. tables_in c.args.name.now >>= locked c.args.schema))
    ((rw c.in-Err-tables_in.is at c.tables_in.ensures.run) (locked c.args.schema))

pub returns-in-Err-new-clause-run : goal.returns-in-Err-new-clause-run
returns-in-Err-new-clause-run g c =
    comes-then ((rw c.in_default.is at c.check_schema.ensures.run) (λ _. tables_in c.args.name.now >>= locked c.args.schema))
    (comes-then ((rw c.in-Ok.is at c.tables_in.ensures.run) (locked c.args.schema))
    (room-missed (acquire_all (map ddl_lock c.in-Ok.tables.items) >>= drop_with c.args.schema)))

pub returns-in-Ok-new-clause-run : goal.returns-in-Ok-new-clause-run
returns-in-Ok-new-clause-run g c =
    let locks : LockList = record { keys = c.in-Ok.tables.items; tickets = [] } in
    let row : Row Reply = lock_rest locks (drop_with c.args.schema) in
    comes-played c.lock_within.new.space c.lock_within.new.self (drop_schema_under c.args.name.now c.args.schema) row c.lock_within.result
    (comes-then ((rw c.in_default.is at c.check_schema.ensures.run) (λ _. tables_in c.args.name.now >>= locked c.args.schema))
    (comes-then ((rw c.in-Ok.is at c.tables_in.ensures.run) (locked c.args.schema)) (room-found row)))
    (subst (λ (l : LockList). IsPlayed g.S.LockSpace (lock_rest l (drop_with c.args.schema)) c.tables_in.new.space c.tables_in.new.self c.lock_within.result c.lock_within.new.space c.lock_within.new.self)
    c.in-Ok-new.ensures c.lock_within.ensures.run)
