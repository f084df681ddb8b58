-- What is left of a statement at each of its stages, once the lock that it waits for is granted.
use Rattle.std.specs.Prelude.{ℕ, true, List, [], ◌∷◌, ◌++◌, length, drop, map}
use Rattle.std.specs.Option.{option_map}
use Rattle.mdl_key.specs.Keys.{KeyName}
use Rattle.mdl_context.specs.Wishes.{Wish}
use Rattle.mdl_rows.specs.declared.reply.Reply.{Reply}
use Rattle.mdl_rows.specs.declared.reply.Reply.TheVariants as reply
use Rattle.mdl_rows.specs.declared.reply.TableShown.{TableShown}
use Rattle.mdl_stmt.specs.declared.runner.Work.{Work}
use Rattle.mdl_stmt.specs.declared.lock_list.Locking.{Locking}
use Rattle.mdl_stmt.specs.declared.lock_list.Locking.TheVariants.{Ddl, Tables}
use Rattle.mdl_syntax.specs.declared.statement.Alteration.{Alteration}
use Rattle.mdl_syntax.specs.declared.table_locks.TableLock.{TableLock}
use Rattle.mdl_stmt.specs.declared.stage.Stage.{Stage}
use Rattle.mdl_stmt.specs.declared.stage.Stage.TheVariants.{Commit, Select, Write, Create, CreateSchema, Drop, DropSchema, Rename, Flush, Alter, Lock, GetLock}
use Rattle.mdl_stmt.specs.declared.stage.Writing.{Writing}
use Rattle.mdl_stmt.specs.declared.stage.Writing.TheVariants as writing
use Rattle.mdl_stmt.specs.declared.stage.Creating.{Creating}
use Rattle.mdl_stmt.specs.declared.stage.Creating.TheVariants as creating
use Rattle.mdl_stmt.specs.declared.stage.CreatingSchema.{CreatingSchema}
use Rattle.mdl_stmt.specs.declared.stage.CreatingSchema.TheVariants as creating_schema
use Rattle.mdl_stmt.specs.declared.stage.Dropping.{Dropping}
use Rattle.mdl_stmt.specs.declared.stage.Dropping.TheVariants as dropping
use Rattle.mdl_stmt.specs.declared.stage.DroppingSchema.{DroppingSchema}
use Rattle.mdl_stmt.specs.declared.stage.DroppingSchema.TheVariants as dropping_schema
use Rattle.mdl_stmt.specs.declared.stage.Renaming.{Renaming}
use Rattle.mdl_stmt.specs.declared.stage.Renaming.TheVariants as renaming
use Rattle.mdl_stmt.specs.declared.stage.Flushing.{Flushing}
use Rattle.mdl_stmt.specs.declared.stage.Flushing.TheVariants as flushing
use Rattle.mdl_stmt.specs.declared.stage.Altering.{Altering}
use Rattle.mdl_stmt.specs.declared.stage.Altering.TheVariants as altering
use Rattle.mdl_stmt.specs.declared.stage.LockingTables.{LockingTables}
use Rattle.mdl_stmt.specs.declared.stage.LockingTables.TheVariants as locking
use Rattle.mdl_rows.specs.KeyOrder.{locked_ticket}
use Rattle.mdl_stmt.specs.LockLists.{LockList, with_next_ticket}
use Rattle.mdl_rows.specs.Rows.{Row, Give, ◌>>=◌, ◌>>◌, acquire_all}
use Rattle.mdl_rows.specs.Sessions.{Left, Session}
use Rattle.mdl_stmt.specs.Players.{RunnerView}
use Rattle.mdl_rows.specs.Statements.{after_commit, end_under, show, show_all, lock_to_read, lock_and_write, write_under, ddl_lock, lock_schema_and_create, lock_and_create, create_under, lock_and_create_schema, create_schema_under, lock_and_drop, drop_under, lock_and_rename, rename_under, schema_of, lock_commits, read_lock_under, lock_schema_and_alter, alter_in_schema, alter_under, raise_and_change, reopen_and_change, change_table, alter_locked_under, change_and_lower, table_lock, lock_named, keep_locked, lock_and_drop_schema, drop_schema_under, drop_with}

-- SELECT, once the first of these tables is locked: it is shown, and then the others
abbrev pub show_next : List TableShown → List KeyName → ℕ → Row Reply
show_next shown [] ticket = Give (reply.Columns shown)
show_next shown (table ∷ tables) ticket = do
  more ← show shown table ticket
  show_all lock_to_read more tables

-- the remaining locks of a list are acquired, each by the request for its key, and then a rest follows with all
-- tickets
abbrev pub lock_rest_by : (KeyName → Wish) → LockList → (List ℕ → Row Reply) → Row Reply
lock_rest_by wish locks rest = do
  more ← acquire_all (map wish (drop (length locks.tickets) locks.keys))
  rest (locks.tickets ++ more)

-- the same, with the locks of DDL
abbrev pub lock_rest : LockList → (List ℕ → Row Reply) → Row Reply
lock_rest = lock_rest_by ddl_lock

-- the request for each key of a list
abbrev pub wish_by : Locking → KeyName → Wish
wish_by Ddl = ddl_lock
wish_by (Tables locks) = table_lock locks.now

-- RENAME TABLE: the remaining locks of both names are acquired, and then the table is renamed
abbrev pub rename_names : KeyName → KeyName → ℕ → LockList → List KeyName → Row Reply
rename_names from to schema locks keys = lock_rest locks (λ tickets. rename_under schema (locked_ticket from keys tickets) (locked_ticket to keys tickets))

abbrev pub rename_scopes : KeyName → KeyName → LockList → List KeyName → Row Reply
rename_scopes from to locks keys = lock_rest locks (λ scopes. lock_and_rename from to (locked_ticket (schema_of to) keys scopes))

-- what is left of INSERT, UPDATE or DELETE
abbrev pub rest_of_writing : Writing → ℕ → Row Reply
rest_of_writing (writing.Global table priority) global = lock_and_write table.now priority
rest_of_writing writing.Table ticket = write_under ticket
rest_of_writing writing.Commit lock = end_under lock >> Give reply.Ok

-- what is left of CREATE TABLE
abbrev pub rest_of_creating : Creating → ℕ → Row Reply
rest_of_creating (creating.Global table columns) global = lock_schema_and_create table.now columns.now
rest_of_creating (creating.Schema table columns) schema = lock_and_create table.now columns.now schema
rest_of_creating (creating.Table columns schema) ticket = create_under columns.now schema ticket

-- what is left of CREATE SCHEMA
abbrev pub rest_of_creating_schema : CreatingSchema → ℕ → Row Reply
rest_of_creating_schema (creating_schema.Global name) global = lock_and_create_schema name.now
rest_of_creating_schema creating_schema.Schema ticket = create_schema_under ticket

-- what is left of DROP TABLE
abbrev pub rest_of_dropping : Dropping → ℕ → Row Reply
rest_of_dropping (dropping.Scopes tables locks) ticket = lock_rest (with_next_ticket ticket locks) (λ scopes. lock_and_drop tables.now)
rest_of_dropping (dropping.Tables locks) ticket = lock_rest (with_next_ticket ticket locks) drop_under

-- what is left of DROP SCHEMA
abbrev pub rest_of_dropping_schema : DroppingSchema → ℕ → Row Reply
rest_of_dropping_schema (dropping_schema.Global name) global = lock_and_drop_schema name.now
rest_of_dropping_schema (dropping_schema.Schema name) ticket = drop_schema_under name.now ticket
rest_of_dropping_schema (dropping_schema.Tables schema locks) ticket = lock_rest (with_next_ticket ticket locks) (drop_with schema)

-- what is left of RENAME TABLE
abbrev pub rest_of_renaming : KeyName → KeyName → Renaming → ℕ → Row Reply
rest_of_renaming from to (renaming.Scopes locks) ticket = rename_scopes from to (with_next_ticket ticket locks) locks.keys
rest_of_renaming from to (renaming.Names schema locks) ticket = rename_names from to schema (with_next_ticket ticket locks) locks.keys

-- what is left of FLUSH TABLES WITH READ LOCK
abbrev pub rest_of_flushing : Flushing → ℕ → Row Reply
rest_of_flushing flushing.Global global = lock_commits global
rest_of_flushing flushing.Commit commit = read_lock_under commit

-- what is left of ALTER TABLE
abbrev pub rest_of_altering : Alteration → Altering → ℕ → Row Reply
rest_of_altering alteration altering.Global global = lock_schema_and_alter alteration
rest_of_altering alteration altering.Schema schema = alter_in_schema alteration
rest_of_altering alteration altering.Table ticket = alter_under alteration ticket
rest_of_altering alteration altering.Copy ticket = raise_and_change alteration ticket
rest_of_altering alteration altering.InPlace ticket = reopen_and_change alteration ticket
rest_of_altering alteration altering.Change ticket = change_table alteration ticket
rest_of_altering alteration altering.Locked ticket = alter_locked_under alteration ticket
rest_of_altering alteration altering.ChangeLocked ticket = change_and_lower alteration ticket

-- what is left of LOCK TABLES
abbrev pub rest_of_locking : List TableLock → LockingTables → ℕ → Row Reply
rest_of_locking tables (locking.Scopes locks) ticket = lock_rest (with_next_ticket ticket locks) (lock_named tables)
rest_of_locking tables (locking.Tables scopes locks) ticket =
    lock_rest_by (table_lock tables) (with_next_ticket ticket locks) (keep_locked tables locks.keys scopes.items)

-- what is left of a statement
abbrev pub rest_of : Stage → ℕ → Row Reply
rest_of (Commit statement) lock = end_under lock >> after_commit statement.now
rest_of (Select tables at shown) ticket = show_next shown (drop at tables.now) ticket
rest_of (Write at) ticket = rest_of_writing at ticket
rest_of (Create at) ticket = rest_of_creating at ticket
rest_of (CreateSchema at) ticket = rest_of_creating_schema at ticket
rest_of (Drop at) ticket = rest_of_dropping at ticket
rest_of (DropSchema at) ticket = rest_of_dropping_schema at ticket
rest_of (Rename from to at) ticket = rest_of_renaming from.now to.now at ticket
rest_of (Flush at) ticket = rest_of_flushing at ticket
rest_of (Alter alteration at) ticket = rest_of_altering alteration.now at ticket
rest_of (Lock tables at) ticket = rest_of_locking tables.now at ticket
rest_of GetLock ticket = Give (reply.Number true)

-- what is left of a statement, with the session's mark when the statement began
abbrev pub work_left : Work → Left
work_left work = record { rest = rest_of work.stage; mark = work.mark }

-- the session of a runner
abbrev pub session_of : RunnerView → Session
session_of runner = record { context = runner.context; state = runner.state; left = option_map work_left runner.work }
