-- What each statement does, after MySQL 5.7: the Reference Manual, "Metadata Locking", "START TRANSACTION, COMMIT, and ROLLBACK
-- Statements", "SAVEPOINT, ROLLBACK TO SAVEPOINT, and RELEASE SAVEPOINT Statements", "LOCK TABLES and UNLOCK TABLES Statements" and
-- "Locking Functions". Checks are listed in the order in which they are made. "The GLOBAL lock" is taken in mode IX for writes and
-- changes of definitions, and mode S blocks these. The following is this project's own choice. CREATE TABLE gets its lock before it
-- checks schema, table and columns, and CREATE SCHEMA and DROP SCHEMA get theirs before they check the schema. DROP TABLE drops none if
-- one is missing. RENAME TABLE checks the schema of the new name. Changes of definitions take no COMMIT lock of their own, and all
-- except ALTER TABLE are refused under locked tables. ALTER TABLE clones the lock of a locked table and upgrades the clone. LOCK TABLES
-- gets all its locks before it checks whether a table is missing. A savepoint outside a transaction does nothing. Going back to a
-- savepoint releases what was gained since, whatever was written, and the transaction still counts as one that wrote. KILL QUERY always
-- succeeds. RELEASE_LOCK finds out whether another session holds a lock by requesting it.
use Rattle.std.specs.Prelude.{ℕ, Bool, true, false, not, ◌&&◌, nat_lt, List, [], ◌∷◌, ◌++◌, filter, map, find, is_some, Option, Some, None, if◌then◌else◌}
use Rattle.std.specs.List.{list_any}
use Rattle.mdl_key.specs.declared.mode.Mode.{Mode}
use Rattle.mdl_key.specs.declared.mode.Mode.TheVariants.{IX, S, SR, SW, SWLP, X, SU, SNW, SNRW, SRO}
use Rattle.mdl_key.specs.declared.mode.Duration.TheVariants as for
use Rattle.mdl_key.specs.declared.namespace.Namespace.{Namespace}
use Rattle.mdl_key.specs.declared.namespace.Namespace.TheVariants as of
use Rattle.mdl_key.specs.Keys.{KeyName, global_key, commit_key, schema_key, user_lock_key, key_eq}
use Rattle.mdl_defs.specs.declared.change.Change.{Change}
use Rattle.mdl_defs.specs.declared.change.Change.TheVariants as change
use Rattle.mdl_defs.specs.declared.def_error.DefError.{DefError}
use Rattle.mdl_defs.specs.declared.def_error.DefError.TheVariants as fault
use Rattle.mdl_defs.specs.declared.definition.Definition.{Definition}
use Rattle.mdl_defs.specs.declared.definition.Definition.TheVariants.{Schema, Table}
use Rattle.mdl_defs.specs.declared.versioned_definition.VersionedDefinition.{VersionedDefinition}
use Rattle.mdl_defs.specs.Changes.{change_fault}
use Rattle.mdl_defs.specs.Columns.{names_twice}
use Rattle.mdl_syntax.specs.declared.statement.Algorithm.{Algorithm}
use Rattle.mdl_syntax.specs.declared.statement.Algorithm.TheVariants.{Copy, Inplace}
use Rattle.mdl_syntax.specs.declared.statement.Alteration.{Alteration}
use Rattle.mdl_syntax.specs.declared.statement.LockType.{LockType}
use Rattle.mdl_syntax.specs.declared.statement.LockType.TheVariants as to
use Rattle.mdl_syntax.specs.declared.statement.Priority.{Priority}
use Rattle.mdl_syntax.specs.declared.statement.Priority.TheVariants.{Normal, Low}
use Rattle.mdl_syntax.specs.declared.statement.Statement.{Statement}
use Rattle.mdl_syntax.specs.declared.statement.Statement.TheVariants as statement
use Rattle.mdl_syntax.specs.declared.table_locks.TableLock.{TableLock}
use Rattle.mdl_syntax.specs.Forms.{tables_of}
use Rattle.mdl_context.specs.declared.request.Mark.{Mark}
use Rattle.mdl_context.specs.Contexts.{beyond_mark, of_transaction}
use Rattle.mdl_context.specs.Wishes.{Wish}
use Rattle.mdl_rows.specs.declared.error_number.ErrorNumber.{ErrorNumber}
use Rattle.mdl_rows.specs.declared.error_number.ErrorNumber.TheVariants.{SchemaExists, UnknownDatabase, TableExists, DuplicateColumn, CantDropColumn, TableLockedForRead, TableNotLocked, NoSuchTable, ActiveLocks, ConflictingReadLock, NoSuchSavepoint, LastColumn, TooManyColumns, VersionLimit}
use Rattle.mdl_rows.specs.declared.state.Locked.{Locked}
use Rattle.mdl_rows.specs.declared.state.ReadLock.{ReadLock}
use Rattle.mdl_rows.specs.declared.reply.Reply.{Reply}
use Rattle.mdl_rows.specs.declared.reply.Reply.TheVariants as reply
use Rattle.mdl_rows.specs.declared.reply.TableShown.{TableShown}
use Rattle.mdl_rows.specs.KeyOrder.{in_key_order, locked_ticket}
use Rattle.mdl_rows.specs.Rows.{Row, Act, Give, Fail, Acquire, ◌>>=◌, ◌>>◌, nothing, room, look, set, here, acquire, try_acquire, last_of, give_up, release, read, redefine, upgrade, downgrade, keep, tables_within, key_of, kill, check, acquire_all, for_each}
use Rattle.mdl_rows.specs.States.{has_locked, with_open_transaction, without_transaction, after_write, unlocked, with_commits_locked, with_savepoint, with_writes_locked, without_read_lock, savepoint_mark, up_to, locking}

-- ---- transactions

-- ends the transaction: releases its tickets, and those of the statement
abbrev pub end_transaction : Act
end_transaction = do
  give_up of_transaction
  set without_transaction

-- ends the transaction under the COMMIT lock, and then releases that lock
abbrev pub end_under : ℕ → Act
end_under lock = do
  end_transaction
  release lock

-- commits a transaction that wrote
abbrev pub commit_writes : Act
commit_writes = do
  lock ← acquire commit_key IX for.Explicit
  end_under lock

-- commits an open transaction
abbrev pub commit : Act
commit = do
  state ← look
  if state.is_open then (if state.has_written then commit_writes else end_transaction) else nothing

-- rolls back an open transaction
abbrev pub rollback : Act
rollback = do
  state ← look
  if state.is_open then end_transaction else nothing

-- ---- locked tables, and the global read lock

-- releases locked tables, with their scopes
abbrev pub unlock_tables : Act
unlock_tables = do
  state ← look
  for_each release (map (λ (table : Locked). table.ticket) state.locked ++ state.scopes)
  set unlocked

-- checks that the session doesn't have the global read lock itself
abbrev pub no_read_lock : Act
no_read_lock = do
  state ← look
  check (not (is_some state.read_lock)) ConflictingReadLock

-- checks that the session has no locked tables
abbrev pub no_locked_tables : Act
no_locked_tables = do
  state ← look
  check (not (has_locked state.locked)) ActiveLocks

-- a locked table, or an error if the table isn't locked
abbrev pub among_locked : Option Locked → Row Locked
among_locked (Some table) = Give table
among_locked None = Fail TableNotLocked

-- the lock that the session holds of a table by LOCK TABLES
abbrev pub held_lock : KeyName → Row Locked
held_lock table = do
  state ← look
  among_locked (find (λ (locked : Locked). key_eq table locked.key) state.locked)

-- ---- definitions of keys

-- whether a key has a definition
abbrev pub is_defined : VersionedDefinition → Bool
is_defined standing = is_some standing.definition

-- whether a definition can be changed once more, before the limit of 1,000,000 versions
abbrev pub has_version_left : VersionedDefinition → Bool
has_version_left standing = nat_lt standing.version 1000000

-- the columns of a table's definition
abbrev pub table_columns : Option Definition → List (List ℕ)
table_columns (Some (Table columns)) = columns
table_columns _ = []

-- the version and definition of a table, read under its lock. Fails if there is no such table
abbrev pub exists : ℕ → Row VersionedDefinition
exists ticket = do
  standing ← read ticket
  check (is_defined standing) NoSuchTable
  Give standing

-- ---- BEGIN, SAVEPOINT, ROLLBACK TO

-- BEGIN, once no transaction is open
abbrev pub begin_after_commit : Row Reply
begin_after_commit = do
  unlock_tables
  set with_open_transaction
  Give reply.Ok

-- saves the session's current mark under a name
abbrev pub save_here : List ℕ → Act
save_here name = do
  room
  mark ← here
  set (λ state. record state { savepoints = with_savepoint name mark state.savepoints })

-- SAVEPOINT: without a transaction it does nothing
abbrev pub save : List ℕ → Row Reply
save name = do
  state ← look
  if state.is_open then save_here name else nothing
  Give reply.Ok

-- goes back to a savepoint's mark. Fails if there is no such savepoint
abbrev pub go_back : List ℕ → Option Mark → Row Reply
go_back name None = Fail NoSuchSavepoint
go_back name (Some mark) = do
  give_up (beyond_mark mark)
  set (λ state. record state { savepoints = up_to name state.savepoints })
  Give reply.Ok

-- ROLLBACK TO
abbrev pub rollback_to : List ℕ → Row Reply
rollback_to name = do
  state ← look
  go_back name (savepoint_mark name state.savepoints)

-- ---- SELECT

-- shows a table under its lock, after those already shown
abbrev pub show : List TableShown → KeyName → ℕ → Row (List TableShown)
show shown table ticket = do
  standing ← exists ticket
  room
  Give (shown ++ record { key = table; version = standing.version; columns = table_columns standing.definition } ∷ [])

-- locks each of the tables in this way and shows it, before the next one
abbrev pub show_all : (KeyName → Row ℕ) → List TableShown → List KeyName → Row Reply
show_all lock shown [] = Give (reply.Columns shown)
show_all lock shown (table ∷ tables) = do
  ticket ← lock table
  more ← show shown table ticket
  show_all lock more tables

-- the lock by which a table is read
abbrev pub lock_to_read : KeyName → Row ℕ
lock_to_read table = acquire table SR for.Transaction

-- the lock of a table that LOCK TABLES locked
abbrev pub lock_held : KeyName → Row ℕ
lock_held table = do
  locked ← held_lock table
  Give locked.ticket

-- shows a table that LOCK TABLES locked
abbrev pub show_held : List TableShown → KeyName → Row (List TableShown)
show_held shown table = do
  ticket ← lock_held table
  show shown table ticket

-- SELECT
abbrev pub select : List KeyName → Row Reply
select tables = do
  state ← look
  show_all (if has_locked state.locked then lock_held else lock_to_read) [] tables

-- ---- INSERT, UPDATE, DELETE

-- the mode of the table lock of a write
abbrev pub write_mode : Priority → Mode
write_mode Normal = SW
write_mode Low = SWLP

-- notes that the open transaction wrote. Without an open one, the write is a transaction of its own, and is committed
abbrev pub wrote : Row Reply
wrote = do
  state ← look
  if state.is_open then set after_write else commit_writes
  Give reply.Ok

-- writes to a table under its lock
abbrev pub write_under : ℕ → Row Reply
write_under ticket = do
  exists ticket
  wrote

-- locks a table and writes to it, under the GLOBAL lock
abbrev pub lock_and_write : KeyName → Priority → Row Reply
lock_and_write table priority = do
  ticket ← acquire table (write_mode priority) for.Transaction
  write_under ticket

-- gets the GLOBAL lock in mode IX, which a global read lock of another session blocks, and then locks the table
abbrev pub lock_writes : KeyName → Priority → Row Reply
lock_writes table priority = do
  global ← acquire global_key IX for.Statement
  lock_and_write table priority

-- a write of a session without locked tables
abbrev pub write_unlocked : KeyName → Priority → Row Reply
write_unlocked table priority = do
  no_read_lock
  lock_writes table priority

-- a write of a session with locked tables
abbrev pub write_locked : KeyName → Row Reply
write_locked table = do
  locked ← held_lock table
  check locked.may_write TableLockedForRead
  wrote

-- INSERT, UPDATE and DELETE
abbrev pub write : KeyName → Priority → Row Reply
write table priority = do
  state ← look
  if has_locked state.locked then write_locked table else write_unlocked table priority

-- ---- changes of definitions

-- how DDL begins. After it no transaction is open, so the locks of DDL are released when the statement ends
abbrev pub ddl : Act
ddl = do
  no_read_lock
  no_locked_tables
  commit

-- the lock of DDL on a key. A table is locked against all other sessions. A schema and GLOBAL are locked only against sessions that lock
-- them as a whole
abbrev pub ddl_lock : KeyName → Wish
ddl_lock key = lock_in key.namespace where
  lock_in : Namespace → Wish
  lock_in of.Table = record { key = key; mode = X; duration = for.Transaction }
  lock_in of.Global = record { key = key; mode = IX; duration = for.Statement }
  lock_in _ = record { key = key; mode = IX; duration = for.Transaction }

-- the key of a table's schema
abbrev pub schema_of : KeyName → KeyName
schema_of table = schema_key table.schema

-- checks that a schema exists
abbrev pub check_schema : ℕ → Act
check_schema schema = do
  over ← read schema
  check (is_defined over) UnknownDatabase

-- ---- CREATE TABLE

-- checks that there is no such table, that its columns have different names, and that it can be changed once more
abbrev pub check_new : List (List ℕ) → ℕ → Act
check_new columns table = do
  standing ← read table
  check (not (is_defined standing)) TableExists
  check (not (names_twice columns)) DuplicateColumn
  check (has_version_left standing) VersionLimit

-- defines a table
abbrev pub make_table : List (List ℕ) → ℕ → Act
make_table columns table = do
  room
  redefine table (change.Create (Table columns))

-- creates a table under its lock and its schema's
abbrev pub create_under : List (List ℕ) → ℕ → ℕ → Row Reply
create_under columns schema table = do
  check_schema schema
  check_new columns table
  make_table columns table
  Give reply.Ok

-- locks a table under its schema's lock, and creates it
abbrev pub lock_and_create : KeyName → List (List ℕ) → ℕ → Row Reply
lock_and_create table columns schema = do
  ticket ← acquire table X for.Transaction
  create_under columns schema ticket

-- locks a table's schema under the GLOBAL lock, and then locks and creates the table
abbrev pub lock_schema_and_create : KeyName → List (List ℕ) → Row Reply
lock_schema_and_create table columns = do
  room
  schema ← Acquire (ddl_lock (schema_of table)) Give
  lock_and_create table columns schema

-- CREATE TABLE, once no transaction is open
abbrev pub create_after_commit : KeyName → List (List ℕ) → Row Reply
create_after_commit table columns = do
  global ← Acquire (ddl_lock global_key) Give
  lock_schema_and_create table columns

-- ---- CREATE SCHEMA

-- checks that there is no such schema, and that it can be changed once more
abbrev pub check_new_schema : ℕ → Act
check_new_schema schema = do
  standing ← read schema
  check (not (is_defined standing)) SchemaExists
  check (has_version_left standing) VersionLimit

-- creates a schema under its lock
abbrev pub create_schema_under : ℕ → Row Reply
create_schema_under schema = do
  check_new_schema schema
  redefine schema (change.Create Schema)
  Give reply.Ok

-- locks a schema in mode X under the GLOBAL lock, against DDL and LOCK TABLES for writing in it, and creates it
abbrev pub lock_and_create_schema : List ℕ → Row Reply
lock_and_create_schema name = do
  room
  schema ← acquire (schema_key name) X for.Transaction
  create_schema_under schema

-- CREATE SCHEMA, once no transaction is open
abbrev pub create_schema_after_commit : List ℕ → Row Reply
create_schema_after_commit name = do
  global ← Acquire (ddl_lock global_key) Give
  lock_and_create_schema name

-- ---- DROP TABLE

-- checks that a key's definition can be changed once more
abbrev pub can_change : ℕ → Act
can_change ticket = do
  standing ← read ticket
  check (has_version_left standing) VersionLimit

-- checks that a table exists
abbrev pub stands : ℕ → Act
stands ticket = exists ticket >> nothing

-- drops tables under their locks: all, or none if one is missing or can't be changed once more
abbrev pub drop_under : List ℕ → Row Reply
drop_under tickets = do
  for_each stands tickets
  for_each can_change tickets
  for_each (λ ticket. redefine ticket change.Drop) tickets
  Give reply.Ok

-- locks tables under the locks of their schemas, all of them before the first is checked, and drops them
abbrev pub lock_and_drop : List KeyName → Row Reply
lock_and_drop tables = do
  room
  tickets ← acquire_all (map ddl_lock (in_key_order tables))
  drop_under tickets

-- DROP TABLE, once no transaction is open
abbrev pub drop_after_commit : List KeyName → Row Reply
drop_after_commit tables = do
  room
  scopes ← acquire_all (map ddl_lock (global_key ∷ in_key_order (map schema_of tables)))
  lock_and_drop tables

-- ---- DROP SCHEMA

-- the keys of places, one after the other, after those already found
abbrev pub keys_of_places : List KeyName → List ℕ → Row (List KeyName)
keys_of_places told [] = Give told
keys_of_places told (place ∷ places) = do
  key ← key_of place
  room
  keys_of_places (told ++ key ∷ []) places

-- the tables of a schema that have a definition, in key order
abbrev pub tables_in : List ℕ → Row (List KeyName)
tables_in name = do
  places ← tables_within name
  keys_of_places [] places

-- drops the tables and then the schema, under all their locks, unless one of them can't be changed once more
abbrev pub drop_with : ℕ → List ℕ → Row Reply
drop_with schema tables = do
  for_each can_change tables
  can_change schema
  for_each (λ ticket. redefine ticket change.Drop) tables
  redefine schema change.Drop
  Give reply.Ok

-- checks that a schema exists, locks its tables under its lock, all of them before the first is checked, and drops it with them
abbrev pub drop_schema_under : List ℕ → ℕ → Row Reply
drop_schema_under name schema = do
  check_schema schema
  tables ← tables_in name
  room
  tickets ← acquire_all (map ddl_lock tables)
  drop_with schema tickets

-- locks a schema in mode X under the GLOBAL lock, against DDL and LOCK TABLES for writing in it, and drops it
abbrev pub lock_and_drop_schema : List ℕ → Row Reply
lock_and_drop_schema name = do
  room
  schema ← acquire (schema_key name) X for.Transaction
  drop_schema_under name schema

-- DROP SCHEMA, once no transaction is open
abbrev pub drop_schema_after_commit : List ℕ → Row Reply
drop_schema_after_commit name = do
  global ← Acquire (ddl_lock global_key) Give
  lock_and_drop_schema name

-- ---- RENAME TABLE

-- checks that there is no table under this lock
abbrev pub check_absent : ℕ → Act
check_absent ticket = do
  standing ← read ticket
  check (not (is_defined standing)) TableExists

-- a definition, or an error if there is none
abbrev pub has_definition : Option Definition → Row Definition
has_definition (Some definition) = Give definition
has_definition None = Fail NoSuchTable

-- the definition of a table, under its lock
abbrev pub definition_under : ℕ → Row Definition
definition_under ticket = do
  standing ← read ticket
  has_definition standing.definition

-- moves a definition from one table to another. Checks before the first change that each can be changed once more
abbrev pub move_definition : Definition → ℕ → ℕ → Row Reply
move_definition definition from to = do
  for_each can_change (to ∷ from ∷ [])
  redefine to (change.Put definition)
  redefine from change.Drop
  Give reply.Ok

-- renames a table under the locks of both names and of the new name's schema
abbrev pub rename_under : ℕ → ℕ → ℕ → Row Reply
rename_under schema from to = do
  check_absent to
  definition ← definition_under from
  check_schema schema
  move_definition definition from to

-- both names in key order
abbrev pub both_names : KeyName → KeyName → List KeyName
both_names from to = in_key_order (from ∷ to ∷ [])

-- locks both names in key order, under the locks of their schemas, before the first is checked, and renames the table
abbrev pub lock_and_rename : KeyName → KeyName → ℕ → Row Reply
lock_and_rename from to schema = do
  room
  tickets ← acquire_all (map ddl_lock (both_names from to))
  rename_under schema (locked_ticket from (both_names from to) tickets) (locked_ticket to (both_names from to) tickets)

-- GLOBAL, and the schemas of both names in key order
abbrev pub both_scopes : KeyName → KeyName → List KeyName
both_scopes from to = global_key ∷ in_key_order (map schema_of (from ∷ to ∷ []))

-- RENAME TABLE, once no transaction is open
abbrev pub rename_after_commit : KeyName → KeyName → Row Reply
rename_after_commit from to = do
  room
  scopes ← acquire_all (map ddl_lock (both_scopes from to))
  lock_and_rename from to (locked_ticket (schema_of to) (both_scopes from to) scopes)

-- ---- UNLOCK TABLES

-- releases the ticket of the COMMIT lock, if there is one
abbrev pub release_commits : Option ℕ → Act
release_commits None = nothing
release_commits (Some commit) = release commit

-- releases the tickets of a global read lock
abbrev pub release_read_lock : Option ReadLock → Act
release_read_lock None = nothing
release_read_lock (Some lock) = do
  release_commits lock.commit
  release lock.global

-- releases the global read lock
abbrev pub give_up_read_lock : Act
give_up_read_lock = do
  state ← look
  release_read_lock state.read_lock
  set without_read_lock

-- UNLOCK TABLES: an open transaction stays open
abbrev pub unlock : Row Reply
unlock = do
  unlock_tables
  give_up_read_lock
  Give reply.Ok

-- ---- FLUSH TABLES WITH READ LOCK

-- with the COMMIT lock, the session has the whole global read lock
abbrev pub read_lock_under : ℕ → Row Reply
read_lock_under commit = do
  set (with_commits_locked commit)
  Give reply.Ok

-- gets the COMMIT lock in mode S, under the GLOBAL lock. If the statement ends without the COMMIT lock, the GLOBAL lock is released
abbrev pub lock_commits : ℕ → Row Reply
lock_commits global = do
  set (with_writes_locked global)
  commit ← acquire commit_key S for.Explicit
  read_lock_under commit

-- gets the GLOBAL lock in mode S, which blocks writes and DDL of other sessions, and then the COMMIT lock, which blocks their commits of
-- writes
abbrev pub get_read_lock : Row Reply
get_read_lock = do
  global ← acquire global_key S for.Explicit
  lock_commits global

-- FLUSH TABLES WITH READ LOCK, once no transaction is open. Does nothing if the session has the global read lock
abbrev pub flush_after_commit : Row Reply
flush_after_commit = do
  state ← look
  if is_some state.read_lock then Give reply.Ok else get_read_lock

-- ---- ALTER TABLE

-- the error of a change that can't be made. All faults not listed are reported as a missing table
abbrev pub fault_number : DefError → ErrorNumber
fault_number fault.DuplicateColumn = DuplicateColumn
fault_number fault.NoColumn = CantDropColumn
fault_number fault.LastColumn = LastColumn
fault_number fault.ManyColumns = TooManyColumns
fault_number _ = NoSuchTable

-- checks that a change has no fault
abbrev pub check_fault : Option DefError → Act
check_fault None = nothing
check_fault (Some fault) = Fail (fault_number fault)

-- checks that there is a table to which the change can be made, and that it can be changed once more
abbrev pub check_change : Change → ℕ → Act
check_change change table = do
  standing ← read table
  room
  check_fault (change_fault standing.definition change)
  check (has_version_left standing) VersionLimit

-- changes a table under a lock in mode X
abbrev pub change_table : Alteration → ℕ → Row Reply
change_table alteration table = do
  redefine table alteration.change
  Give reply.Ok

-- upgrades a table's lock to X, and changes the table
abbrev pub raise_and_change : Alteration → ℕ → Row Reply
raise_and_change alteration table = do
  alone ← upgrade table alteration.table X
  change_table alteration alone

-- upgrades a table's lock to SNW, so that no other session writes while the table is copied, and then changes the table
abbrev pub alter_by_copy : Alteration → ℕ → Row Reply
alter_by_copy alteration table = do
  copied ← upgrade table alteration.table SNW
  raise_and_change alteration copied

-- downgrades a table's lock to SU, so that other sessions can read and write the table while it is altered in place, and then changes
-- the table
abbrev pub reopen_and_change : Alteration → ℕ → Row Reply
reopen_and_change alteration table = do
  downgrade table SU
  raise_and_change alteration table

-- alters a table in place: upgrades its lock to X, so that no other session uses it while the alteration is prepared
abbrev pub alter_in_place : Alteration → ℕ → Row Reply
alter_in_place alteration table = do
  prepared ← upgrade table alteration.table X
  reopen_and_change alteration prepared

-- alters a table by an algorithm
abbrev pub alter_by : Algorithm → Alteration → ℕ → Row Reply
alter_by Copy = alter_by_copy
alter_by Inplace = alter_in_place

-- alters a table under its lock, if the change can be made
abbrev pub alter_under : Alteration → ℕ → Row Reply
alter_under alteration table = do
  check_change alteration.change table
  alter_by alteration.algorithm alteration table

-- changes a table that LOCK TABLES locked, and downgrades its lock to the former mode
abbrev pub change_and_lower : Alteration → ℕ → Row Reply
change_and_lower alteration table = do
  redefine table alteration.change
  downgrade table SNRW
  Give reply.Ok

-- alters a table that LOCK TABLES locked, by either algorithm
abbrev pub alter_locked_under : Alteration → ℕ → Row Reply
alter_locked_under alteration table = do
  check_change alteration.change table
  alone ← upgrade table alteration.table X
  change_and_lower alteration alone

-- clones the session's lock of a table for the transaction, and upgrades the clone. The clone is released however the statement ends, so
-- the table stays locked as before, even if memory runs out halfway
abbrev pub alter_locked : Alteration → Row Reply
alter_locked alteration = do
  table ← acquire alteration.table SNRW for.Transaction
  alter_locked_under alteration table

-- locks a table against other changes, for a session without locked tables, and alters it
abbrev pub alter_unlocked : Alteration → Row Reply
alter_unlocked alteration = do
  table ← acquire alteration.table SU for.Transaction
  alter_under alteration table

-- alters a table under the lock of its schema
abbrev pub alter_in_schema : Alteration → Row Reply
alter_in_schema alteration = do
  state ← look
  if has_locked state.locked then alter_locked alteration else alter_unlocked alteration

-- locks a table's schema under the GLOBAL lock, and then alters the table
abbrev pub lock_schema_and_alter : Alteration → Row Reply
lock_schema_and_alter alteration = do
  room
  schema ← Acquire (ddl_lock (schema_of alteration.table)) Give
  alter_in_schema alteration

-- ALTER TABLE, once no transaction is open
abbrev pub alter_after_commit : Alteration → Row Reply
alter_after_commit alteration = do
  global ← Acquire (ddl_lock global_key) Give
  lock_schema_and_alter alteration

-- ---- LOCK TABLES

-- whether a table is locked for writing
abbrev pub is_write : LockType → Bool
is_write to.Read = false
is_write to.Write = true

-- the tables that are locked for writing
abbrev pub written_tables : List TableLock → List KeyName
written_tables locks = tables_of (filter (λ (lock : TableLock). is_write lock.lock_type) locks)

-- whether a table is among those that are locked for writing
abbrev pub may_write : List TableLock → KeyName → Bool
may_write locks table = list_any (λ (lock : TableLock). is_write lock.lock_type && key_eq table lock.table) locks

-- the request for the lock of a table that LOCK TABLES names
abbrev pub table_lock : List TableLock → KeyName → Wish
table_lock locks table = record { key = table; mode = if may_write locks table then SNRW else SRO; duration = for.Transaction }

-- whether any table is locked for writing
abbrev pub writes_any : List TableLock → Bool
writes_any locks = list_any (λ (lock : TableLock). is_write lock.lock_type) locks

-- checks that a session with the global read lock locks no table for writing
abbrev pub check_writes : Bool → Act
check_writes true = no_read_lock
check_writes false = nothing

-- GLOBAL and these schemas, or nothing if there are no schemas
abbrev pub with_global : List KeyName → List KeyName
with_global [] = []
with_global (schema ∷ schemas) = global_key ∷ schema ∷ schemas

-- the scopes of tables that are locked for writing
abbrev pub scopes_around : List KeyName → List KeyName
scopes_around tables = with_global (in_key_order (map schema_of tables))

-- locked tables with their tickets
abbrev pub locked_by : List TableLock → List KeyName → List ℕ → List Locked
locked_by locks (table ∷ tables) (ticket ∷ tickets) =
    record { key = table; may_write = may_write locks table; ticket = ticket } ∷ locked_by locks tables tickets
locked_by locks _ _ = []

-- checks that all tables exist, makes the session's tickets explicit, and notes the locked tables and the tickets of their scopes
abbrev pub keep_locked : List TableLock → List KeyName → List ℕ → List ℕ → Row Reply
keep_locked locks tables scopes tickets = do
  for_each stands tickets
  room
  keep
  set (locking (locked_by locks tables tickets) scopes)
  Give reply.Ok

-- locks tables under the locks of their scopes, all of them before the first is checked
abbrev pub lock_named : List TableLock → List ℕ → Row Reply
lock_named locks scopes = do
  room
  tickets ← acquire_all (map (table_lock locks) (in_key_order (tables_of locks)))
  keep_locked locks (in_key_order (tables_of locks)) scopes tickets

-- LOCK TABLES, once no transaction is open. Releases tables that were locked before
abbrev pub lock_tables_after_commit : List TableLock → Row Reply
lock_tables_after_commit locks = do
  unlock_tables
  room
  scopes ← acquire_all (map ddl_lock (scopes_around (written_tables locks)))
  lock_named locks scopes

-- ---- GET_LOCK and RELEASE_LOCK

-- GET_LOCK: no transaction begins or ends, and the lock stays until the session releases it
abbrev pub get_lock : List ℕ → Row Reply
get_lock name = do
  room
  acquire (user_lock_key name) X for.Explicit
  Give (reply.Number true)

-- the reply after the session requested a lock that it doesn't hold: 0 if another session holds it. If none does, the lock is released
-- at once, and the reply is NULL
abbrev pub given : Option ℕ → Row Reply
given None = Give (reply.Number false)
given (Some ticket) = do
  release ticket
  Give reply.Null

-- releases the session's last ticket of a lock. If it has none, finds out whether another session holds the lock
abbrev pub give_back : KeyName → Option ℕ → Row Reply
give_back lock (Some ticket) = do
  release ticket
  Give (reply.Number true)
give_back lock None = do
  got ← try_acquire lock X for.Explicit
  given got

-- RELEASE_LOCK
abbrev pub release_lock : List ℕ → Row Reply
release_lock name = do
  room
  held ← last_of (user_lock_key name)
  give_back (user_lock_key name) held

-- ---- the table

-- commits an open transaction, and then does the rest
abbrev pub commit_first : Row Reply → Row Reply
commit_first rest = commit >> rest

-- begins DDL, and then does the rest
abbrev pub ddl_first : Row Reply → Row Reply
ddl_first rest = ddl >> rest

-- FLUSH TABLES WITH READ LOCK: it is refused under locked tables. Otherwise an open transaction is committed
abbrev pub flush_first : Row Reply → Row Reply
flush_first rest = no_locked_tables >> commit_first rest

-- ALTER TABLE of a session with locked tables: the table must be one of them, locked for writing
abbrev pub alter_among_locked : KeyName → Row Reply → Row Reply
alter_among_locked table rest = do
  locked ← held_lock table
  check locked.may_write TableLockedForRead
  commit_first rest

-- ALTER TABLE: it is refused under the session's own global read lock, but not under locked tables
abbrev pub alter_first : KeyName → Row Reply → Row Reply
alter_first table rest = do
  no_read_lock
  state ← look
  if has_locked state.locked then alter_among_locked table rest else commit_first rest

-- LOCK TABLES: it is refused for writing under the session's own global read lock. Otherwise an open transaction is committed
abbrev pub lock_first : List TableLock → Row Reply → Row Reply
lock_first locks rest = check_writes (writes_any locks) >> commit_first rest

-- what is left of a statement once it has committed an open transaction
abbrev pub after_commit : Statement → Row Reply
after_commit statement.Begin = begin_after_commit
after_commit (statement.CreateTable table columns) = create_after_commit table columns
after_commit (statement.CreateSchema name) = create_schema_after_commit name
after_commit (statement.DropTables tables) = drop_after_commit tables
after_commit (statement.DropSchema name) = drop_schema_after_commit name
after_commit (statement.RenameTable from to) = rename_after_commit from to
after_commit statement.FlushTablesWithReadLock = flush_after_commit
after_commit (statement.AlterTable alteration) = alter_after_commit alteration
after_commit (statement.LockTables locks) = lock_tables_after_commit locks
after_commit _ = Give reply.Ok

-- what a statement does: its row
abbrev pub row_of : Statement → Row Reply
row_of statement.Begin = commit_first begin_after_commit
row_of statement.Commit = commit_first (Give reply.Ok)
row_of statement.Rollback = rollback >> Give reply.Ok
row_of (statement.Savepoint name) = save name
row_of (statement.RollbackTo name) = rollback_to name
row_of (statement.Select tables) = select tables
row_of (statement.Write table priority) = write table priority
row_of (statement.CreateTable table columns) = ddl_first (create_after_commit table columns)
row_of (statement.CreateSchema name) = ddl_first (create_schema_after_commit name)
row_of (statement.DropTables tables) = ddl_first (drop_after_commit tables)
row_of (statement.DropSchema name) = ddl_first (drop_schema_after_commit name)
row_of (statement.RenameTable from to) = ddl_first (rename_after_commit from to)
row_of statement.UnlockTables = unlock
row_of statement.FlushTablesWithReadLock = flush_first flush_after_commit
row_of (statement.AlterTable alteration) = alter_first alteration.table (alter_after_commit alteration)
row_of (statement.LockTables locks) = lock_first locks (lock_tables_after_commit locks)
row_of (statement.KillQuery target) = kill target >> Give reply.Ok
row_of statement.Timeout = Give reply.Ok
row_of (statement.GetLock name) = get_lock name
row_of (statement.ReleaseLock name) = release_lock name
