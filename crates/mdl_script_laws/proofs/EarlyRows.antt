-- When rows fail by an early error: before they change anything, or never.
use Rattle.std.proofs.Common.{◌≡◌, ℕ, Bool, true, false, List, [], ◌∷◌, Option, Some, None}
use Rattle.std.specs.Prelude.{if◌then◌else◌, find, is_some, not, ◌++◌}
use Rattle.mdl_key.specs.declared.mode.Duration.TheVariants as for
use Rattle.mdl_key.specs.declared.mode.Mode.TheVariants.{IX}
use Rattle.mdl_key.specs.Keys.{KeyName, global_key, key_eq}
use Rattle.mdl_defs.specs.declared.versioned_definition.VersionedDefinition.{VersionedDefinition}
use Rattle.mdl_syntax.specs.declared.statement.Priority.{Priority}
use Rattle.mdl_syntax.specs.declared.statement.Statement.{Statement}
use Rattle.mdl_syntax.specs.declared.statement.Statement.TheVariants as statement
use Rattle.mdl_context.specs.declared.request.Mark.{Mark}
use Rattle.mdl_rows.specs.declared.error_number.ErrorNumber.{ErrorNumber}
use Rattle.mdl_rows.specs.declared.error_number.ErrorNumber.TheVariants.{TableLockedForRead, NoSuchTable, ActiveLocks, ConflictingReadLock}
use Rattle.mdl_rows.specs.declared.state.Locked.{Locked}
use Rattle.mdl_rows.specs.declared.reply.Reply.{Reply}
use Rattle.mdl_rows.specs.declared.reply.Reply.TheVariants as reply
use Rattle.mdl_rows.specs.declared.reply.TableShown.{TableShown}
use Rattle.mdl_rows.specs.Rows.{Row, Act, Give, Fail, Room, Look, Here, Read, ◌>>=◌, ◌>>◌, acquire, check, nothing, room, set}
use Rattle.mdl_rows.specs.States.{State, after_write, has_locked, savepoint_mark}
use Rattle.mdl_rows.specs.Statements as rows
use Rattle.mdl_rows.specs.Statements.{row_of}
use Rattle.mdl_script_laws.specs.RefusalsFirst.{is_early}
use Rattle.mdl_script_laws.proofs.RowRules.{Any, KeepsTo, keeps-begin, keeps-bind, keeps-commit, keeps-create, keeps-create_schema, keeps-drop, keeps-either, keeps-exists, keeps-rename, keeps-flush, keeps-rollback, keeps-unlock_all, keeps-alter, keeps-lock_tables, keeps-drop_schema, keeps-get_lock, keeps-release_lock}

-- a failure by another error
abbrev pub IsOther : ErrorNumber → Type 0
IsOther number = is_early number ≡ false

-- its failures are others, and what it gives is so
abbrev pub FailsLate : {A : Type 0} → (A → Type 0) → Row A → Type 0
FailsLate P row = KeepsTo IsOther P row

-- it fails by an early error only before it changes anything; what it gives before that is so, and what it gives later is so
abbrev pub ChecksFirst : {A : Type 0} → (A → Type 0) → (A → Type 0) → Row A → Type 0
ChecksFirst P Q (Give x) = P x
ChecksFirst P Q (Fail number) = Unit {0}
ChecksFirst P Q (Room rest) = ChecksFirst P Q rest
ChecksFirst P Q (Look rest) = (state : State) → ChecksFirst P Q (rest state)
ChecksFirst P Q (Here rest) = (mark : Mark) → ChecksFirst P Q (rest mark)
ChecksFirst P Q (Read id rest) = (standing : VersionedDefinition) → ChecksFirst P Q (rest standing)
ChecksFirst P Q row = FailsLate Q row

-- nothing may be given
abbrev pub Never : {A : Type 0} → A → Type 0
Never x = ⊥

-- a reply that is no early error
abbrev pub IsLate : Reply → Type 0
IsLate (reply.Error number) = is_early number ≡ false
IsLate _ = Unit {0}

-- ---- one row after another

checks_bind : {A B : Type 0} (P Q : A → Type 0) (R T : B → Type 0) (first : Row A) (next : A → Row B) → ChecksFirst P Q first
    → ((x : A) → P x → ChecksFirst R T (next x)) → ((x : A) → Q x → FailsLate T (next x)) → ChecksFirst R T (first >>= next)
checks_bind P Q R T (Give x) next checks early late = early x checks
checks_bind P Q R T (Fail number) next checks early late = tt
checks_bind P Q R T (Room rest) next checks early late = checks_bind P Q R T rest next checks early late
checks_bind P Q R T (Look rest) next checks early late = λ state. checks_bind P Q R T (rest state) next (checks state) early late
checks_bind P Q R T (Here rest) next checks early late = λ mark. checks_bind P Q R T (rest mark) next (checks mark) early late
checks_bind P Q R T (Read id rest) next checks early late = λ standing. checks_bind P Q R T (rest standing) next (checks standing) early late
checks_bind P Q R T first next checks early late = keeps-bind IsOther Q T first next checks late

-- what never fails so fails so first, if ever
late_first : {A : Type 0} (P : A → Type 0) (row : Row A) → FailsLate P row → ChecksFirst P P row
late_first P (Give x) so = so
late_first P (Fail number) so = tt
late_first P (Room rest) so = late_first P rest so
late_first P (Look rest) so = λ state. late_first P (rest state) (so state)
late_first P (Here rest) so = λ mark. late_first P (rest mark) (so mark)
late_first P (Read id rest) so = λ standing. late_first P (rest standing) (so standing)
late_first P row so = so

-- a check changes nothing
checks_check : (test : Bool) (number : ErrorNumber) → ChecksFirst Any Never (check test number)
checks_check true number = tt
checks_check false number = tt

-- ---- transactions

late_save : (name : List ℕ) → FailsLate IsLate (rows.save name)
late_save name = λ state.
    keeps-bind IsOther Any IsLate (if state.is_open then rows.save_here name else nothing) (λ _. Give reply.Ok)
    (keeps-either IsOther Any state.is_open (rows.save_here name) nothing (λ _. ((λ s u. u), tt)) tt) (λ _ _. tt)

checks_back : (name : List ℕ) (mark : Option Mark) → ChecksFirst IsLate IsLate (rows.go_back name mark)
checks_back name None = tt
checks_back name (Some mark) = ((λ s u. u), tt)

-- ---- what stands

late_exists : (ticket : ℕ) → FailsLate Any (rows.exists ticket)
late_exists ticket = keeps-exists IsOther (λ number other. other) ticket

checks_exists : (ticket : ℕ) → ChecksFirst Any Never (rows.exists ticket)
checks_exists ticket = λ standing.
    checks_bind Any Never Any Never (check (rows.is_defined standing) NoSuchTable) (λ _. Give standing) (checks_check (rows.is_defined standing) NoSuchTable)
    (λ _ _. tt) (λ _ none. none)

-- ---- SELECT

-- those that were shown before, and this one
abbrev with_table : List TableShown → KeyName → VersionedDefinition → List TableShown
with_table shown table standing = shown ++ record { key = table; version = standing.version; columns = rows.table_columns standing.definition } ∷ []

late_show : (shown : List TableShown) (table : KeyName) (ticket : ℕ) → FailsLate Any (rows.show shown table ticket)
late_show shown table ticket =
    keeps-bind IsOther Any Any (rows.exists ticket) (λ standing. room >> Give (with_table shown table standing))
    (late_exists ticket) (λ standing _. tt)

checks_show : (shown : List TableShown) (table : KeyName) (ticket : ℕ) → ChecksFirst Any Never (rows.show shown table ticket)
checks_show shown table ticket =
    checks_bind Any Never Any Never (rows.exists ticket) (λ standing. room >> Give (with_table shown table standing))
    (checks_exists ticket) (λ standing _. tt) (λ standing none. absurd none)

-- tables that are locked as they are shown
late_shows : (shown : List TableShown) (tables : List KeyName) → FailsLate IsLate (rows.show_all rows.lock_to_read shown tables)
late_shows shown [] = tt
late_shows shown (table ∷ tables) = λ ticket.
    keeps-bind IsOther Any IsLate (rows.show shown table ticket) (λ more. rows.show_all rows.lock_to_read more tables) (late_show shown table ticket)
    (λ more _. late_shows more tables)

checks_among : (found : Option Locked) → ChecksFirst Any Never (rows.among_locked found)
checks_among None = tt
checks_among (Some table) = tt

checks_held : (table : KeyName) → ChecksFirst Any Never (rows.held_lock table)
checks_held table = λ state. checks_among (find (λ (locked : Locked). key_eq table locked.key) state.locked)

checks_lock : (table : KeyName) → ChecksFirst Any Never (rows.lock_held table)
checks_lock table =
    checks_bind Any Never Any Never (rows.held_lock table) (λ locked. Give locked.ticket) (checks_held table) (λ locked _. tt) (λ locked none. absurd none)

-- tables that are among the locked ones
checks_shows : (shown : List TableShown) (tables : List KeyName) → ChecksFirst IsLate IsLate (rows.show_all rows.lock_held shown tables)
checks_shows shown [] = tt
checks_shows shown (table ∷ tables) =
    checks_bind Any Never IsLate IsLate (rows.lock_held table)
    (λ ticket. rows.show shown table ticket >>= (λ more. rows.show_all rows.lock_held more tables)) (checks_lock table)
    (λ ticket _. checks_bind Any Never IsLate IsLate (rows.show shown table ticket) (λ more. rows.show_all rows.lock_held more tables)
    (checks_show shown table ticket)
    (λ more _. checks_shows more tables) (λ more none. absurd none)) (λ ticket none. absurd none)

checks_select : (locked : Bool) (tables : List KeyName)
    → ChecksFirst IsLate IsLate (rows.show_all (if locked then rows.lock_held else rows.lock_to_read) [] tables)
checks_select true tables = checks_shows [] tables
checks_select false tables = late_first IsLate (rows.show_all rows.lock_to_read [] tables) (late_shows [] tables)

-- ---- INSERT, UPDATE, DELETE

late_wrote : FailsLate IsLate rows.wrote
late_wrote = λ state.
    keeps-bind IsOther Any IsLate (if state.is_open then set after_write else rows.commit_writes) (λ _. Give reply.Ok)
    (keeps-either IsOther Any state.is_open (set after_write) rows.commit_writes ((λ s u. u), tt) (λ _. ((λ s u e. cc), tt))) (λ _ _. tt)

late_write : (table : KeyName) (priority : Priority) → FailsLate IsLate (rows.lock_and_write table priority)
late_write table priority = λ ticket. keeps-bind IsOther Any IsLate (rows.exists ticket) (λ _. rows.wrote) (late_exists ticket) (λ _ _. late_wrote)

checks_no_read_lock : ChecksFirst Any Never rows.no_read_lock
checks_no_read_lock = λ state. checks_check (not (is_some state.read_lock)) ConflictingReadLock

checks_no_locked : ChecksFirst Any Never rows.no_locked_tables
checks_no_locked = λ state. checks_check (not (has_locked state.locked)) ActiveLocks

-- a check, and then what checks first itself
checks_then : (first : Act) (rest : Row Reply) → ChecksFirst Any Never first → ChecksFirst IsLate IsLate rest → ChecksFirst IsLate IsLate (first >> rest)
checks_then first rest checks later = checks_bind Any Never IsLate IsLate first (λ _. rest) checks (λ _ _. later) (λ _ none. absurd none)

checks_unlocked : (table : KeyName) (priority : Priority) → ChecksFirst IsLate IsLate (rows.write_unlocked table priority)
checks_unlocked table priority =
    checks_then rows.no_read_lock (acquire global_key IX for.Statement >> rows.lock_and_write table priority) checks_no_read_lock
    (λ _. late_write table priority)

checks_locked : (table : KeyName) → ChecksFirst IsLate IsLate (rows.write_locked table)
checks_locked table =
    checks_bind Any Never IsLate IsLate (rows.held_lock table) (λ (locked : Locked). check locked.may_write TableLockedForRead >> rows.wrote)
    (checks_held table)
    (λ locked _. checks_then (check locked.may_write TableLockedForRead) rows.wrote (checks_check locked.may_write TableLockedForRead)
    (late_first IsLate rows.wrote late_wrote))
    (λ locked none. absurd none)

checks_write : (locked : Bool) (table : KeyName) (priority : Priority)
    → ChecksFirst IsLate IsLate (if locked then rows.write_locked table else rows.write_unlocked table priority)
checks_write true table priority = checks_locked table
checks_write false table priority = checks_unlocked table priority

-- ---- CREATE TABLE, CREATE SCHEMA, DROP TABLE, DROP SCHEMA, RENAME TABLE

late_commit : FailsLate Any rows.commit
late_commit = keeps-commit IsOther (λ number other. other)

checks_ddl : ChecksFirst Any Any rows.ddl
checks_ddl =
    checks_bind Any Never Any Any rows.no_read_lock (λ _. rows.no_locked_tables >> rows.commit) checks_no_read_lock
    (λ _ _. checks_bind Any Never Any Any rows.no_locked_tables (λ _. rows.commit) checks_no_locked (λ _ _. late_first Any rows.commit late_commit)
    (λ _ none. absurd none))
    (λ _ none. absurd none)

-- after it nothing fails by an early error
checks_ddl_first : (rest : Row Reply) → FailsLate IsLate rest → ChecksFirst IsLate IsLate (rows.ddl_first rest)
checks_ddl_first rest so = checks_bind Any Any IsLate IsLate rows.ddl (λ _. rest) checks_ddl (λ _ _. late_first IsLate rest so) (λ _ _. so)

-- ---- LOCK TABLES

checks_writes : (writes : Bool) → ChecksFirst Any Never (rows.check_writes writes)
checks_writes true = checks_no_read_lock
checks_writes false = tt

-- ---- all statements

late_commit_first : (rest : Row Reply) → FailsLate IsLate rest → FailsLate IsLate (rows.commit_first rest)
late_commit_first rest so = keeps-bind IsOther Any IsLate rows.commit (λ _. rest) late_commit (λ _ _. so)

-- ALTER TABLE looks at locked tables first
checks_alter : (locked : Bool) (table : KeyName) (rest : Row Reply) → FailsLate IsLate rest
    → ChecksFirst IsLate IsLate (if locked then rows.alter_among_locked table rest else rows.commit_first rest)
checks_alter true table rest so =
    checks_bind Any Never IsLate IsLate (rows.held_lock table) (λ (locked : Locked). check locked.may_write TableLockedForRead >> rows.commit_first rest)
    (checks_held table)
    (λ locked _. checks_then (check locked.may_write TableLockedForRead) (rows.commit_first rest) (checks_check locked.may_write TableLockedForRead)
    (late_first IsLate (rows.commit_first rest) (late_commit_first rest so)))
    (λ locked none. absurd none)
checks_alter false table rest so = late_first IsLate (rows.commit_first rest) (late_commit_first rest so)

-- each fails by an early error only before it changes anything
pub statements_check : (asked : Statement) → ChecksFirst IsLate IsLate (row_of asked)
statements_check statement.Begin =
    late_first IsLate (rows.commit_first rows.begin_after_commit) (late_commit_first rows.begin_after_commit
    (keeps-begin IsOther (λ number other. other) IsLate tt))
statements_check statement.Commit = late_first IsLate (rows.commit_first (Give reply.Ok)) (late_commit_first (Give reply.Ok) tt)
statements_check statement.Rollback =
    late_first IsLate (rows.rollback >> Give reply.Ok) (keeps-bind IsOther Any IsLate rows.rollback (λ _. Give reply.Ok)
    (keeps-rollback IsOther (λ number other. other)) (λ _ _. tt))
statements_check (statement.Savepoint name) = late_first IsLate (rows.save name) (late_save name)
statements_check (statement.RollbackTo name) = λ state. checks_back name (savepoint_mark name state.savepoints)
statements_check (statement.Select tables) = λ state. checks_select (has_locked state.locked) tables
statements_check (statement.Write table priority) = λ state. checks_write (has_locked state.locked) table priority
statements_check (statement.CreateTable table columns) = checks_ddl_first (rows.create_after_commit table columns)
    (keeps-create IsOther (λ number other. other) IsLate tt table columns)
statements_check (statement.CreateSchema name) = checks_ddl_first (rows.create_schema_after_commit name)
    (keeps-create_schema IsOther (λ number other. other) IsLate tt name)
statements_check (statement.DropTables tables) = checks_ddl_first (rows.drop_after_commit tables)
    (keeps-drop IsOther (λ number other. other) IsLate tt tables)
statements_check (statement.DropSchema name) = checks_ddl_first (rows.drop_schema_after_commit name)
    (keeps-drop_schema IsOther (λ number other. other) IsLate tt name)
statements_check (statement.RenameTable from to) = checks_ddl_first (rows.rename_after_commit from to)
    (keeps-rename IsOther (λ number other. other) IsLate tt from to)
statements_check statement.UnlockTables = late_first IsLate rows.unlock (keeps-unlock_all IsOther (λ number other. other) IsLate tt)
statements_check statement.FlushTablesWithReadLock =
    checks_then rows.no_locked_tables (rows.commit_first rows.flush_after_commit) checks_no_locked
    (late_first IsLate (rows.commit_first rows.flush_after_commit) (late_commit_first rows.flush_after_commit
    (keeps-flush IsOther (λ number other. other) IsLate tt)))
statements_check (statement.AlterTable alteration) =
    let rest = rows.alter_after_commit alteration in
    let looks : Row Reply = Look (λ (state : State). if has_locked state.locked then rows.alter_among_locked alteration.table rest else rows.commit_first rest) in
    checks_then rows.no_read_lock looks checks_no_read_lock
    (λ state. checks_alter (has_locked state.locked) alteration.table rest (keeps-alter IsOther (λ number other. other) IsLate tt alteration))
statements_check (statement.LockTables locks) =
    let rest = rows.commit_first (rows.lock_tables_after_commit locks) in
    checks_then (rows.check_writes (rows.writes_any locks)) rest (checks_writes (rows.writes_any locks))
    (late_first IsLate rest (late_commit_first (rows.lock_tables_after_commit locks) (keeps-lock_tables IsOther (λ number other. other) IsLate tt locks)))
statements_check (statement.KillQuery target) = tt
statements_check statement.Timeout = tt
statements_check (statement.GetLock name) =
    late_first IsLate (rows.get_lock name) (keeps-get_lock IsOther (λ number other. other) IsLate (λ truth. tt) name)
statements_check (statement.ReleaseLock name) =
    late_first IsLate (rows.release_lock name) (keeps-release_lock IsOther (λ number other. other) IsLate (λ truth. tt) tt name)
