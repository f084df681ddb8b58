-- The plans of transactions, of locked tables and of changes of definitions mean their rows.
use Rattle.std.proofs.Common.{◌≡◌, ◌∙◌, ℕ, Bool, true, false, List, [], ◌∷◌, map, Option, refl, sym, ap, if◌then◌else◌}
use mathlib.Core.Path.{fun_ext}
use Rattle.std.specs.Prelude.{is_some, not}
use Rattle.mdl_key.specs.declared.mode.Mode.TheVariants.{X}
use Rattle.mdl_key.specs.declared.mode.Duration.TheVariants as for
use Rattle.mdl_key.specs.Keys.{KeyName, global_key, schema_key, user_lock_key}
use Rattle.mdl_defs.specs.declared.change.Change.TheVariants as change
use Rattle.mdl_defs.specs.declared.definition.Definition.{Definition}
use Rattle.mdl_defs.specs.declared.definition.Definition.TheVariants.{Schema}
use Rattle.mdl_syntax.specs.declared.statement.Statement.{Statement}
use Rattle.mdl_syntax.specs.declared.statement.Statement.TheVariants as statement
use Rattle.mdl_syntax.specs.declared.table_locks.TableLock.{TableLock}
use Rattle.mdl_syntax.specs.Forms.{tables_of}
use Rattle.mdl_rows.specs.declared.error_number.ErrorNumber.TheVariants.{ActiveLocks}
use Rattle.mdl_rows.specs.declared.reply.Reply.{Reply}
use Rattle.mdl_rows.specs.declared.reply.Reply.TheVariants as reply
use Rattle.mdl_rows.specs.declared.state.ReadLock.{ReadLock}
use Rattle.mdl_rows.specs.KeyOrder.{in_key_order, locked_ticket}
use Rattle.mdl_rows.specs.Rows.{Row, Give, Room, Acquire, Keep, Last, Set, ◌>>=◌, ◌>>◌, acquire_all, for_each, redefine, set}
use Rattle.mdl_rows.specs.States.{State, has_locked, locking, with_open_transaction}
use Rattle.mdl_rows.specs.Statements.{begin_after_commit, both_names, both_scopes, can_change, check_absent, check_new, check_new_schema, check_schema, check_writes, commit, create_after_commit, create_schema_after_commit, create_schema_under, create_under, ddl_lock, definition_under, drop_after_commit, drop_schema_after_commit, drop_schema_under, drop_under, drop_with, flush_after_commit, get_read_lock, give_back, give_up_read_lock, keep_locked, lock_and_drop, lock_and_rename, lock_named, lock_tables_after_commit, locked_by, make_table, move_definition, no_locked_tables, release_lock, rename_after_commit, rename_under, rollback, rollback_to, row_of, save, schema_of, scopes_around, stands, table_lock, tables_in, unlock, unlock_tables, writes_any, written_tables}
use Rattle.mdl_plans.specs.declared.step.Act.TheVariants as act
use Rattle.mdl_plans.specs.declared.step.Keys.TheVariants as keys
use Rattle.mdl_plans.specs.declared.step.Manner.TheVariants as manner
use Rattle.mdl_plans.specs.declared.step.Step.{Step}
use Rattle.mdl_plans.specs.declared.step.Step.TheVariants as step
use Rattle.mdl_plans.specs.Plans.{flushing, plan_of}
use Rattle.mdl_plans.specs.Registers.{Registers, fresh, holding, keeping_scopes, moving, naming, replying}
use Rattle.mdl_plans.specs.Seen.{seen}
use Rattle.mdl_plans.specs.Steps.{meaning, planned}
use Rattle.mdl_plans.proofs.PlanRows.{commit-same, ddl-same, locks-same, only-ticket, with_tickets}
use Rattle.mdl_plans.proofs.RowLemmas.{act-then, bind-assoc, bind-give, then-same}
use Rattle.mdl_plans.proofs.SeenLemmas.{check-seen, commit-seen}

-- ---- transactions, and what is released

pub begin-same : meaning statement.Begin (step.Commit ∷ step.UnlockTables ∷ step.Open ∷ []) fresh ≡ row_of statement.Begin
begin-same =
    commit-same statement.Begin (step.UnlockTables ∷ step.Open ∷ []) begin_after_commit
    (act-then unlock_tables fresh (meaning statement.Begin (step.Open ∷ [])) (set with_open_transaction >> Give reply.Ok) refl)

pub rollback-same : meaning statement.Rollback (step.Rollback ∷ []) fresh ≡ row_of statement.Rollback
rollback-same = act-then rollback fresh (meaning statement.Rollback []) (Give reply.Ok) refl

-- a row that gives the reply
reply-same : (at : Statement) (m : Row Reply) (r : Registers) → (m >>= (λ said. Give (replying said r))) >>= meaning at [] ≡ m
reply-same at m r = bind-assoc m (λ said. Give (replying said r)) (meaning at []) ∙ bind-give m

pub savepoint-same : (name : List ℕ) → let at = statement.Savepoint name in meaning at (step.Save ∷ []) fresh ≡ row_of at
savepoint-same name = reply-same (statement.Savepoint name) (save name) fresh

pub rollback_to-same : (name : List ℕ) → let at = statement.RollbackTo name in meaning at (step.GoBack ∷ []) fresh ≡ row_of at
rollback_to-same name = reply-same (statement.RollbackTo name) (rollback_to name) fresh

pub unlock-same : meaning statement.UnlockTables (step.UnlockTables ∷ step.UnlockReads ∷ []) fresh ≡ unlock
unlock-same =
    let at = statement.UnlockTables in
    act-then unlock_tables fresh (meaning at (step.UnlockReads ∷ [])) (give_up_read_lock >> Give reply.Ok)
    (act-then give_up_read_lock fresh (meaning at []) (Give reply.Ok) refl)

pub release_lock-same : (name : List ℕ) → let at = statement.ReleaseLock name in meaning at (step.Name keys.UserLock ∷ step.GiveBack ∷ []) fresh ≡ release_lock name
release_lock-same name =
    let at = statement.ReleaseLock name in
    ap Room (ap (Last (user_lock_key name)) (fun_ext (λ held. reply-same at (give_back (user_lock_key name) held) (naming (user_lock_key name ∷ []) fresh))))

-- ---- CREATE TABLE and CREATE SCHEMA

create-under-same : (table : KeyName) (columns : List (List ℕ)) (schema ticket : ℕ) → let at = statement.CreateTable table columns in
    meaning at (step.SchemaExists ∷ step.NewTable ∷ step.CreateTable ∷ [])
    (holding table ticket (keeping_scopes (with_tickets (schema ∷ []) (naming (schema_of table ∷ []) fresh)))) ≡ create_under columns schema ticket
create-under-same table columns schema ticket =
    let at = statement.CreateTable table columns in
    let r = holding table ticket (keeping_scopes (with_tickets (schema ∷ []) (naming (schema_of table ∷ []) fresh))) in
    act-then (check_schema (locked_ticket (schema_of table) (schema_of table ∷ []) (schema ∷ []))) r (meaning at (step.NewTable ∷ step.CreateTable ∷ []))
    (check_new columns ticket >> (make_table columns ticket >> Give reply.Ok))
    (act-then (check_new columns ticket) r (meaning at (step.CreateTable ∷ [])) (make_table columns ticket >> Give reply.Ok)
    (act-then (make_table columns ticket) r (meaning at []) (Give reply.Ok) refl))
    ∙ ap (λ (scope : ℕ). check_schema scope >> (check_new columns ticket >> (make_table columns ticket >> Give reply.Ok))) (only-ticket (schema_of table) schema)

pub create_table-same : (table : KeyName) (columns : List (List ℕ)) (locked read : Bool) → let at = statement.CreateTable table columns in
    meaning at (plan_of locked read at) fresh ≡ row_of at
create_table-same table columns locked read =
    let at = statement.CreateTable table columns in
    let ends = step.SchemaExists ∷ step.NewTable ∷ step.CreateTable ∷ [] in
    ddl-same at (step.LockGlobal ∷ step.Name keys.SchemaOf ∷ step.LockNamed manner.Change ∷ step.KeepScopes ∷ step.LockTable X ∷ ends)
    (create_after_commit table columns)
    (ap (Acquire (ddl_lock global_key)) (fun_ext (λ global. ap Room (ap (Acquire (ddl_lock (schema_of table))) (fun_ext (λ schema.
    ap (Acquire (record { key = table; mode = X; duration = for.Transaction })) (fun_ext (λ ticket. create-under-same table columns schema ticket))))))))

create_schema-under-same : (name : List ℕ) (schema : ℕ) → let at = statement.CreateSchema name in
    meaning at (step.NewSchema ∷ step.CreateSchema ∷ []) (keeping_scopes (with_tickets (schema ∷ []) (naming (schema_key name ∷ []) fresh))) ≡ create_schema_under schema
create_schema-under-same name schema =
    let at = statement.CreateSchema name in
    let r = keeping_scopes (with_tickets (schema ∷ []) (naming (schema_key name ∷ []) fresh)) in
    let scope = locked_ticket (schema_key name) (schema_key name ∷ []) (schema ∷ []) in
    act-then (check_new_schema scope) r (meaning at (step.CreateSchema ∷ [])) (redefine scope (change.Create Schema) >> Give reply.Ok) refl
    ∙ ap create_schema_under (only-ticket (schema_key name) schema)

pub create_schema-same : (name : List ℕ) (locked read : Bool) → let at = statement.CreateSchema name in meaning at (plan_of locked read at) fresh ≡ row_of at
create_schema-same name locked read =
    let at = statement.CreateSchema name in
    let ends = step.NewSchema ∷ step.CreateSchema ∷ [] in
    ddl-same at (step.LockGlobal ∷ step.Name keys.OwnSchema ∷ step.LockNamed manner.Whole ∷ step.KeepScopes ∷ ends) (create_schema_after_commit name)
    (ap (Acquire (ddl_lock global_key)) (fun_ext (λ global. ap Room
    (ap (Acquire (record { key = schema_key name; mode = X; duration = for.Transaction })) (fun_ext (λ schema. create_schema-under-same name schema))))))

-- ---- DROP TABLE

drop-under-same : (tables : List KeyName) (r : Registers) (tickets : List ℕ) → let at = statement.DropTables tables in
    meaning at (step.Each act.Exist ∷ step.Each act.MayChange ∷ step.Each act.Drop ∷ []) (record r { tickets = tickets; reply = reply.Ok }) ≡ drop_under tickets
drop-under-same tables r tickets =
    let at = statement.DropTables tables in
    let here : Registers = record r { tickets = tickets; reply = reply.Ok } in
    let dropping = for_each (λ ticket. redefine ticket change.Drop) tickets in
    act-then (for_each stands tickets) here (meaning at (step.Each act.MayChange ∷ step.Each act.Drop ∷ [])) (for_each can_change tickets >> (dropping >> Give reply.Ok))
    (act-then (for_each can_change tickets) here (meaning at (step.Each act.Drop ∷ [])) (dropping >> Give reply.Ok)
    (act-then dropping here (meaning at []) (Give reply.Ok) refl))

pub drop_tables-same : (tables : List KeyName) (locked read : Bool) → let at = statement.DropTables tables in meaning at (plan_of locked read at) fresh ≡ row_of at
drop_tables-same tables locked read =
    let at = statement.DropTables tables in
    let scopes = global_key ∷ in_key_order (map schema_of tables) in
    let ordered = in_key_order tables in
    let ends = step.Each act.Exist ∷ step.Each act.MayChange ∷ step.Each act.Drop ∷ [] in
    let inner = step.Name keys.Tables ∷ step.LockNamed manner.Change ∷ ends in
    ddl-same at (step.Name keys.Scopes ∷ step.LockNamed manner.Change ∷ inner) (drop_after_commit tables)
    (ap Room (locks-same ddl_lock scopes (naming scopes fresh) (meaning at inner) (λ _. lock_and_drop tables) (λ had.
    ap Room (locks-same ddl_lock ordered (naming ordered fresh) (meaning at ends) drop_under (drop-under-same tables (naming ordered fresh))))))

-- ---- DROP SCHEMA

drop_schema-with-same : (name : List ℕ) (schema : ℕ) (tables : List KeyName) (tickets : List ℕ) → let at = statement.DropSchema name in
    let r = with_tickets tickets (naming tables (keeping_scopes (with_tickets (schema ∷ []) (naming (schema_key name ∷ []) fresh)))) in
    meaning at (step.Each act.MayChange ∷ step.SchemaMayChange ∷ step.Each act.Drop ∷ step.DropSchema ∷ []) r ≡ drop_with schema tickets
drop_schema-with-same name schema tables tickets =
    let at = statement.DropSchema name in
    let r = with_tickets tickets (naming tables (keeping_scopes (with_tickets (schema ∷ []) (naming (schema_key name ∷ []) fresh)))) in
    let scope = locked_ticket (schema_key name) (schema_key name ∷ []) (schema ∷ []) in
    let dropping = for_each (λ ticket. redefine ticket change.Drop) tickets in
    act-then (for_each can_change tickets) r (meaning at (step.SchemaMayChange ∷ step.Each act.Drop ∷ step.DropSchema ∷ []))
    (can_change scope >> (dropping >> (redefine scope change.Drop >> Give reply.Ok)))
    (act-then (can_change scope) r (meaning at (step.Each act.Drop ∷ step.DropSchema ∷ [])) (dropping >> (redefine scope change.Drop >> Give reply.Ok))
    (act-then dropping r (meaning at (step.DropSchema ∷ [])) (redefine scope change.Drop >> Give reply.Ok) refl))
    ∙ ap (λ (ticket : ℕ). drop_with ticket tickets) (only-ticket (schema_key name) schema)

-- the plan of DROP SCHEMA, once the schema is checked
abbrev schema_dropped : List Step
schema_dropped = step.Each act.MayChange ∷ step.SchemaMayChange ∷ step.Each act.Drop ∷ step.DropSchema ∷ []

abbrev tables_dropped : List Step
tables_dropped = step.Name keys.TablesOfSchema ∷ step.LockNamed manner.Change ∷ schema_dropped

drop_schema-under-same : (name : List ℕ) (schema : ℕ) → let at = statement.DropSchema name in
    meaning at (step.SchemaExists ∷ tables_dropped) (keeping_scopes (with_tickets (schema ∷ []) (naming (schema_key name ∷ []) fresh))) ≡ drop_schema_under name schema
drop_schema-under-same name schema =
    let at = statement.DropSchema name in
    let r = keeping_scopes (with_tickets (schema ∷ []) (naming (schema_key name ∷ []) fresh)) in
    let scope = locked_ticket (schema_key name) (schema_key name ∷ []) (schema ∷ []) in
    let locks : List KeyName → Row Reply = λ tables. Room (acquire_all (map ddl_lock tables) >>= drop_with schema) in
    act-then (check_schema scope) r (meaning at tables_dropped) (tables_in name >>= locks)
    (bind-assoc (tables_in name) (λ tables. Room (Give (naming tables r))) (meaning at (step.LockNamed manner.Change ∷ schema_dropped))
    ∙ then-same (tables_in name) (λ tables. Room (meaning at (step.LockNamed manner.Change ∷ schema_dropped) (naming tables r))) locks
    (λ tables. ap Room (locks-same ddl_lock tables (naming tables r) (meaning at schema_dropped) (drop_with schema) (drop_schema-with-same name schema tables))))
    ∙ ap (λ (ticket : ℕ). check_schema ticket >> (tables_in name >>= locks)) (only-ticket (schema_key name) schema)

pub drop_schema-same : (name : List ℕ) (locked read : Bool) → let at = statement.DropSchema name in meaning at (plan_of locked read at) fresh ≡ row_of at
drop_schema-same name locked read =
    let at = statement.DropSchema name in
    ddl-same at (step.LockGlobal ∷ step.Name keys.OwnSchema ∷ step.LockNamed manner.Whole ∷ step.KeepScopes ∷ step.SchemaExists ∷ tables_dropped)
    (drop_schema_after_commit name)
    (ap (Acquire (ddl_lock global_key)) (fun_ext (λ global. ap Room
    (ap (Acquire (record { key = schema_key name; mode = X; duration = for.Transaction })) (fun_ext (λ schema. drop_schema-under-same name schema))))))

-- ---- RENAME TABLE

rename-under-same : (from to : KeyName) (scopes tickets : List ℕ) → let at = statement.RenameTable from to in
    let r = with_tickets tickets (naming (both_names from to) (keeping_scopes (with_tickets scopes (naming (both_scopes from to) fresh)))) in
    meaning at (step.NewNameIsFree ∷ step.TakeDefinition ∷ step.SchemaExists ∷ step.NamesMayChange ∷ step.Move ∷ []) r
    ≡ rename_under (locked_ticket (schema_of to) (both_scopes from to) scopes) (locked_ticket from (both_names from to) tickets) (locked_ticket to (both_names from to) tickets)
rename-under-same from to scopes tickets =
    let at = statement.RenameTable from to in
    let r = with_tickets tickets (naming (both_names from to) (keeping_scopes (with_tickets scopes (naming (both_scopes from to) fresh)))) in
    let schema = locked_ticket (schema_of to) (both_scopes from to) scopes in
    let old = locked_ticket from (both_names from to) tickets in
    let new = locked_ticket to (both_names from to) tickets in
    let rest : Definition → Row Reply = λ definition. check_schema schema >> move_definition definition old new in
    act-then (check_absent new) r (meaning at (step.TakeDefinition ∷ step.SchemaExists ∷ step.NamesMayChange ∷ step.Move ∷ [])) (definition_under old >>= rest)
    (bind-assoc (definition_under old) (λ definition. Give (moving definition r)) (meaning at (step.SchemaExists ∷ step.NamesMayChange ∷ step.Move ∷ []))
    ∙ then-same (definition_under old) (λ definition. meaning at (step.SchemaExists ∷ step.NamesMayChange ∷ step.Move ∷ []) (moving definition r)) rest
    (λ definition. act-then (check_schema schema) (moving definition r) (meaning at (step.NamesMayChange ∷ step.Move ∷ [])) (move_definition definition old new)
    (act-then (for_each can_change (new ∷ old ∷ [])) (moving definition r) (meaning at (step.Move ∷ []))
    (redefine new (change.Put definition) >> (redefine old change.Drop >> Give reply.Ok)) refl)))

pub rename_table-same : (from to : KeyName) (locked read : Bool) → let at = statement.RenameTable from to in meaning at (plan_of locked read at) fresh ≡ row_of at
rename_table-same from to locked read =
    let at = statement.RenameTable from to in
    let ends = step.NewNameIsFree ∷ step.TakeDefinition ∷ step.SchemaExists ∷ step.NamesMayChange ∷ step.Move ∷ [] in
    let r : List ℕ → Registers = λ scopes. keeping_scopes (with_tickets scopes (naming (both_scopes from to) fresh)) in
    let schema : List ℕ → ℕ = λ scopes. locked_ticket (schema_of to) (both_scopes from to) scopes in
    let inner = step.KeepScopes ∷ step.Name keys.BothNames ∷ step.LockNamed manner.Change ∷ ends in
    ddl-same at (step.Name keys.BothScopes ∷ step.LockNamed manner.Change ∷ inner) (rename_after_commit from to)
    (ap Room (locks-same ddl_lock (both_scopes from to) (naming (both_scopes from to) fresh) (meaning at inner)
    (λ scopes. lock_and_rename from to (schema scopes)) (λ scopes.
    ap Room (locks-same ddl_lock (both_names from to) (naming (both_names from to) (r scopes)) (meaning at ends)
    (λ tickets. rename_under (schema scopes) (locked_ticket from (both_names from to) tickets) (locked_ticket to (both_names from to) tickets))
    (rename-under-same from to scopes)))))

-- ---- LOCK TABLES

lock_tables-ends-same : (locks : List TableLock) (scopes tickets : List ℕ) → let at = statement.LockTables locks in
    let outer = scopes_around (written_tables locks) in let ordered = in_key_order (tables_of locks) in
    meaning at (step.Each act.Exist ∷ step.KeepLocked ∷ []) (with_tickets tickets (naming ordered (keeping_scopes (with_tickets scopes (naming outer fresh)))))
    ≡ keep_locked locks ordered scopes tickets
lock_tables-ends-same locks scopes tickets =
    let at = statement.LockTables locks in
    let outer = scopes_around (written_tables locks) in
    let ordered = in_key_order (tables_of locks) in
    act-then (for_each stands tickets) (with_tickets tickets (naming ordered (keeping_scopes (with_tickets scopes (naming outer fresh)))))
    (meaning at (step.KeepLocked ∷ [])) (Room (Keep (Set (locking (locked_by locks ordered tickets) scopes) (Give reply.Ok)))) refl

pub lock_tables-same : (locks : List TableLock) (locked read : Bool) → let at = statement.LockTables locks in meaning at (plan_of locked read at) fresh ≡ row_of at
lock_tables-same locks locked read =
    let at = statement.LockTables locks in
    let outer = scopes_around (written_tables locks) in
    let ordered = in_key_order (tables_of locks) in
    let ends = step.Each act.Exist ∷ step.KeepLocked ∷ [] in
    let named = step.KeepScopes ∷ step.Name keys.Tables ∷ step.LockNamed manner.Asked ∷ ends in
    let outer_named = step.Name keys.WrittenScopes ∷ step.LockNamed manner.Change ∷ named in
    act-then (check_writes (writes_any locks)) fresh (meaning at (step.Commit ∷ step.UnlockTables ∷ outer_named)) (commit >> lock_tables_after_commit locks)
    (commit-same at (step.UnlockTables ∷ outer_named) (lock_tables_after_commit locks)
    (act-then unlock_tables fresh (meaning at outer_named) (Room (acquire_all (map ddl_lock outer) >>= lock_named locks))
    (ap Room (locks-same ddl_lock outer (naming outer fresh) (meaning at named) (lock_named locks) (λ scopes.
    ap Room (locks-same (table_lock locks) ordered (naming ordered (keeping_scopes (with_tickets scopes (naming outer fresh)))) (meaning at ends)
    (λ tickets. keep_locked locks ordered scopes tickets) (lock_tables-ends-same locks scopes)))))))

-- ---- FLUSH TABLES WITH READ LOCK

-- the row once it is settled whether the session has the global read lock
abbrev flush_settled : Bool → Row Reply
flush_settled has = if has then Give reply.Ok else get_read_lock

flush-plan-same : (has : Bool) → meaning statement.FlushTablesWithReadLock (flushing has) fresh ≡ no_locked_tables >> (commit >> flush_settled has)
flush-plan-same true =
    let at = statement.FlushTablesWithReadLock in
    act-then no_locked_tables fresh (meaning at (step.Commit ∷ [])) (commit >> flush_settled true) (commit-same at [] (flush_settled true) refl)
flush-plan-same false =
    let at = statement.FlushTablesWithReadLock in
    act-then no_locked_tables fresh (meaning at (step.Commit ∷ step.LockWrites ∷ step.LockCommits ∷ [])) (commit >> flush_settled false)
    (commit-same at (step.LockWrites ∷ step.LockCommits ∷ []) (flush_settled false) refl)

pub flush-same : (state : State) → seen state (planned statement.FlushTablesWithReadLock) ≡ seen state (row_of statement.FlushTablesWithReadLock)
flush-same state =
    ap (seen state) (flush-plan-same (is_some state.read_lock))
    ∙ check-seen state (not (has_locked state.locked)) ActiveLocks (commit >> flush_settled (is_some state.read_lock)) (commit >> flush_after_commit)
    (commit-seen state (flush_settled (is_some state.read_lock)) flush_after_commit
    (λ after locked read. ap (λ (lock : Option ReadLock). seen after (flush_settled (is_some lock))) (sym read)))
