-- What rows change, and what they do behind their first change of a definition.
use Rattle.std.proofs.Common.{◌≡◌, ℕ, Bool, true, false, List, [], ◌∷◌, Option, Some, None, refl}
use Rattle.std.specs.Prelude.{find, if◌then◌else◌, is_some, map, not, ◌++◌}
use Rattle.std.proofs.lemmas.Bool.{false≢true}
use Rattle.mdl_key.specs.Keys.{KeyName, global_key, key_eq, user_lock_key}
use Rattle.mdl_key.specs.declared.mode.Mode.TheVariants.{X, SNRW}
use Rattle.mdl_defs.specs.declared.change.Change.{Change}
use Rattle.mdl_defs.specs.declared.change.Change.TheVariants as change
use Rattle.mdl_defs.specs.declared.def_error.DefError.{DefError}
use Rattle.mdl_defs.specs.Changes.{change_fault}
use Rattle.mdl_defs.specs.Columns.{names_twice}
use Rattle.mdl_defs.specs.declared.definition.Definition.{Definition}
use Rattle.mdl_defs.specs.declared.definition.Definition.TheVariants.{Schema}
use Rattle.mdl_defs.specs.declared.versioned_definition.VersionedDefinition.{VersionedDefinition}
use Rattle.mdl_context.specs.declared.request.Mark.{Mark}
use Rattle.mdl_context.specs.Wishes.{Wish}
use Rattle.mdl_syntax.specs.declared.statement.Algorithm.{Algorithm}
use Rattle.mdl_syntax.specs.declared.statement.Algorithm.TheVariants.{Copy, Inplace}
use Rattle.mdl_syntax.specs.declared.statement.Alteration.{Alteration}
use Rattle.mdl_syntax.specs.declared.statement.Priority.{Priority}
use Rattle.mdl_syntax.specs.declared.statement.Statement.{Statement}
use Rattle.mdl_syntax.specs.declared.statement.Statement.TheVariants as statement
use Rattle.mdl_syntax.specs.declared.table_locks.TableLock.{TableLock}
use Rattle.mdl_syntax.specs.Forms.{tables_of}
use Rattle.mdl_rows.specs.declared.error_number.ErrorNumber.{ErrorNumber}
use Rattle.mdl_rows.specs.declared.error_number.ErrorNumber.TheVariants.{NoSuchTable, ConflictingReadLock, ActiveLocks, SchemaExists, UnknownDatabase, TableExists, DuplicateColumn, VersionLimit, TableLockedForRead}
use Rattle.mdl_rows.specs.declared.state.Locked.{Locked}
use Rattle.mdl_rows.specs.declared.state.ReadLock.{ReadLock}
use Rattle.mdl_rows.specs.declared.reply.Reply.{Reply}
use Rattle.mdl_rows.specs.declared.reply.Reply.TheVariants as reply
use Rattle.mdl_rows.specs.declared.reply.TableShown.{TableShown}
use Rattle.mdl_rows.specs.KeyOrder.{in_key_order}
use Rattle.mdl_rows.specs.KeyOrder.{locked_ticket}
use Rattle.mdl_rows.specs.Rows.{Row, Act, ◌>>=◌, ◌>>◌, check, nothing, acquire_all, for_each}
use Rattle.mdl_rows.specs.Rows as row
use Rattle.mdl_rows.specs.Statements as stm
use Rattle.mdl_rows.specs.Statements.{row_of}
use Rattle.mdl_rows.specs.States.{State, has_locked, after_write, savepoint_mark}
use Rattle.mdl_script_laws.specs.ChangesLast.{BehindItsChange, ChangesAtMostOnce, ChecksBeforeChanges, OnlyFinishes, OnlyLowers, StatementsCheckBeforeTheyChange}
use Rattle.mdl_script_laws.specs.Failures.{changes_one}

-- it changes no definition
abbrev pub KeepsDefinitions : {A : Type 0} → Row A → Type 0
KeepsDefinitions (row.Give x) = Unit {0}
KeepsDefinitions (row.Fail number) = Unit {0}
KeepsDefinitions (row.Room rest) = KeepsDefinitions rest
KeepsDefinitions (row.Look rest) = (state : State) → KeepsDefinitions (rest state)
KeepsDefinitions (row.Set change rest) = KeepsDefinitions rest
KeepsDefinitions (row.Here rest) = (mark : Mark) → KeepsDefinitions (rest mark)
KeepsDefinitions (row.Acquire wish rest) = (id : ℕ) → KeepsDefinitions (rest id)
KeepsDefinitions (row.Try_acquire wish rest) = (got : Option ℕ) → KeepsDefinitions (rest got)
KeepsDefinitions (row.Last key rest) = (held : Option ℕ) → KeepsDefinitions (rest held)
KeepsDefinitions (row.Upgrade id key mode rest) = (new : ℕ) → KeepsDefinitions (rest new)
KeepsDefinitions (row.Downgrade id mode rest) = KeepsDefinitions rest
KeepsDefinitions (row.Give_up which rest) = KeepsDefinitions rest
KeepsDefinitions (row.Release id rest) = KeepsDefinitions rest
KeepsDefinitions (row.Keep rest) = KeepsDefinitions rest
KeepsDefinitions (row.Read id rest) = (standing : VersionedDefinition) → KeepsDefinitions (rest standing)
KeepsDefinitions (row.Redefine id change rest) = ⊥
KeepsDefinitions (row.Tables_of schema rest) = (tables : List ℕ) → KeepsDefinitions (rest tables)
KeepsDefinitions (row.Key_of place rest) = (key : KeyName) → KeepsDefinitions (rest key)
KeepsDefinitions (row.Kill target rest) = KeepsDefinitions rest

-- ---- one row after another

keeps-bind : {A B : Type 0} (first : Row A) (next : A → Row B) → KeepsDefinitions first → ((x : A) → KeepsDefinitions (next x))
    → KeepsDefinitions (first >>= next)
keeps-bind (row.Give x) next keeps later = later x
keeps-bind (row.Fail number) next keeps later = tt
keeps-bind (row.Room rest) next keeps later = keeps-bind rest next keeps later
keeps-bind (row.Look rest) next keeps later = λ state. keeps-bind (rest state) next (keeps state) later
keeps-bind (row.Set change rest) next keeps later = keeps-bind rest next keeps later
keeps-bind (row.Here rest) next keeps later = λ mark. keeps-bind (rest mark) next (keeps mark) later
keeps-bind (row.Acquire wish rest) next keeps later = λ id. keeps-bind (rest id) next (keeps id) later
keeps-bind (row.Try_acquire wish rest) next keeps later = λ got. keeps-bind (rest got) next (keeps got) later
keeps-bind (row.Last key rest) next keeps later = λ held. keeps-bind (rest held) next (keeps held) later
keeps-bind (row.Upgrade id key mode rest) next keeps later = λ new. keeps-bind (rest new) next (keeps new) later
keeps-bind (row.Downgrade id mode rest) next keeps later = keeps-bind rest next keeps later
keeps-bind (row.Give_up which rest) next keeps later = keeps-bind rest next keeps later
keeps-bind (row.Release id rest) next keeps later = keeps-bind rest next keeps later
keeps-bind (row.Keep rest) next keeps later = keeps-bind rest next keeps later
keeps-bind (row.Read id rest) next keeps later = λ standing. keeps-bind (rest standing) next (keeps standing) later
keeps-bind (row.Redefine id change rest) next keeps later = absurd keeps
keeps-bind (row.Tables_of schema rest) next keeps later = λ tables. keeps-bind (rest tables) next (keeps tables) later
keeps-bind (row.Key_of place rest) next keeps later = λ key. keeps-bind (rest key) next (keeps key) later
keeps-bind (row.Kill target rest) next keeps later = keeps-bind rest next keeps later

keeps-either : {A : Type 0} (test : Bool) (one other : Row A) → KeepsDefinitions one → KeepsDefinitions other → KeepsDefinitions (if test then one else other)
keeps-either true one other first second = first
keeps-either false one other first second = second

keeps-check : (test : Bool) (number : ErrorNumber) → KeepsDefinitions (check test number)
keeps-check true number = tt
keeps-check false number = tt

keeps-each : (act : ℕ → Act) (ids : List ℕ) → ((id : ℕ) → KeepsDefinitions (act id)) → KeepsDefinitions (for_each act ids)
keeps-each act [] each = tt
keeps-each act (id ∷ ids) each = keeps-bind (act id) (λ _. for_each act ids) (each id) (λ _. keeps-each act ids each)

keeps-locks : (wishes : List Wish) → KeepsDefinitions (acquire_all wishes)
keeps-locks [] = tt
keeps-locks (wish ∷ wishes) = λ id. keeps-bind (acquire_all wishes) (λ ids. row.Give (id ∷ ids)) (keeps-locks wishes) (λ _. tt)

-- ---- parts of statements that change no definition

keeps-commit : KeepsDefinitions stm.commit
keeps-commit state =
    keeps-either state.is_open (if state.has_written then stm.commit_writes else stm.end_transaction) nothing
    (keeps-either state.has_written stm.commit_writes stm.end_transaction (λ lock. tt) tt) tt

keeps-rollback : KeepsDefinitions stm.rollback
keeps-rollback state = keeps-either state.is_open stm.end_transaction nothing tt tt

keeps-unlock : KeepsDefinitions stm.unlock_tables
keeps-unlock state =
    let ids = map (λ (table : Locked). table.ticket) state.locked ++ state.scopes in
    keeps-bind (for_each row.release ids) (λ _. row.set _) (keeps-each row.release ids (λ id. tt)) (λ _. tt)

keeps-no_read_lock : KeepsDefinitions stm.no_read_lock
keeps-no_read_lock state = keeps-check (not (is_some state.read_lock)) ConflictingReadLock

keeps-no_locked : KeepsDefinitions stm.no_locked_tables
keeps-no_locked state = keeps-check (not (has_locked state.locked)) ActiveLocks

keeps-held_lock : (table : KeyName) → KeepsDefinitions (stm.held_lock table)
keeps-held_lock table state = by (find (λ (locked : Locked). key_eq table locked.key) state.locked) where
  by : (found : Option Locked) → KeepsDefinitions (stm.among_locked found)
  by (Some locked) = tt
  by None = tt

keeps-exists : (ticket : ℕ) → KeepsDefinitions (stm.exists ticket)
keeps-exists ticket standing =
    keeps-bind (check (stm.is_defined standing) NoSuchTable) (λ _. row.Give standing) (keeps-check (stm.is_defined standing) NoSuchTable) (λ _. tt)

keeps-stands : (ids : List ℕ) → KeepsDefinitions (for_each stm.stands ids)
keeps-stands ids = keeps-each stm.stands ids (λ id. keeps-bind (stm.exists id) (λ _. nothing) (keeps-exists id) (λ _. tt))

keeps-version : (id : ℕ) → KeepsDefinitions (stm.can_change id)
keeps-version id standing = keeps-check (stm.has_version_left standing) VersionLimit

keeps-versions : (ids : List ℕ) → KeepsDefinitions (for_each stm.can_change ids)
keeps-versions ids = keeps-each stm.can_change ids keeps-version

keeps-check_schema : (schema : ℕ) → KeepsDefinitions (stm.check_schema schema)
keeps-check_schema schema standing = keeps-check (stm.is_defined standing) UnknownDatabase

keeps-check_new : (columns : List (List ℕ)) (table : ℕ) → KeepsDefinitions (stm.check_new columns table)
keeps-check_new columns table standing =
    keeps-bind (check (not (stm.is_defined standing)) TableExists) _ (keeps-check (not (stm.is_defined standing)) TableExists)
    (λ _. keeps-bind (check (not (names_twice columns)) DuplicateColumn) (λ _. check (stm.has_version_left standing) VersionLimit)
    (keeps-check (not (names_twice columns)) DuplicateColumn) (λ _. keeps-check (stm.has_version_left standing) VersionLimit))

keeps-check_new_schema : (schema : ℕ) → KeepsDefinitions (stm.check_new_schema schema)
keeps-check_new_schema schema standing =
    keeps-bind (check (not (stm.is_defined standing)) SchemaExists) (λ _. check (stm.has_version_left standing) VersionLimit)
    (keeps-check (not (stm.is_defined standing)) SchemaExists) (λ _. keeps-check (stm.has_version_left standing) VersionLimit)

keeps-keys : (told : List KeyName) (places : List ℕ) → KeepsDefinitions (stm.keys_of_places told places)
keeps-keys told [] = tt
keeps-keys told (place ∷ places) = λ key. keeps-keys (told ++ key ∷ []) places

keeps-definition : (found : Option Definition) → KeepsDefinitions (stm.has_definition found)
keeps-definition (Some definition) = tt
keeps-definition None = tt

keeps-fault : (fault : Option DefError) → KeepsDefinitions (stm.check_fault fault)
keeps-fault (Some fault) = tt
keeps-fault None = tt

keeps-check_change : (change : Change) (table : ℕ) → KeepsDefinitions (stm.check_change change table)
keeps-check_change change table standing =
    keeps-bind (stm.check_fault (change_fault standing.definition change)) (λ _. check (stm.has_version_left standing) VersionLimit)
    (keeps-fault (change_fault standing.definition change)) (λ _. keeps-check (stm.has_version_left standing) VersionLimit)

-- ---- statements that change none

keeps-save : (name : List ℕ) → KeepsDefinitions (stm.save name)
keeps-save name state =
    keeps-bind (if state.is_open then stm.save_here name else nothing) (λ _. row.Give reply.Ok)
    (keeps-either state.is_open (stm.save_here name) nothing (λ mark. tt) tt) (λ _. tt)

keeps-rollback_to : (name : List ℕ) → KeepsDefinitions (stm.rollback_to name)
keeps-rollback_to name state = by (savepoint_mark name state.savepoints) where
  by : (mark : Option Mark) → KeepsDefinitions (stm.go_back name mark)
  by None = tt
  by (Some mark) = tt

keeps-show : (shown : List TableShown) (table : KeyName) (ticket : ℕ) → KeepsDefinitions (stm.show shown table ticket)
keeps-show shown table ticket = keeps-bind (stm.exists ticket) _ (keeps-exists ticket) (λ standing. tt)

keeps-show_all : (lock : KeyName → Row ℕ) (shown : List TableShown) (tables : List KeyName) → ((table : KeyName) → KeepsDefinitions (lock table))
    → KeepsDefinitions (stm.show_all lock shown tables)
keeps-show_all lock shown [] each = tt
keeps-show_all lock shown (table ∷ tables) each =
    keeps-bind (lock table) (λ ticket. stm.show shown table ticket >>= (λ more. stm.show_all lock more tables)) (each table)
    (λ ticket. keeps-bind (stm.show shown table ticket) (λ more. stm.show_all lock more tables) (keeps-show shown table ticket)
    (λ more. keeps-show_all lock more tables each))

keeps-select : (tables : List KeyName) → KeepsDefinitions (stm.select tables)
keeps-select tables state =
    keeps-show_all (if has_locked state.locked then stm.lock_held else stm.lock_to_read) [] tables (by (has_locked state.locked)) where
      by : (test : Bool) (table : KeyName) → KeepsDefinitions ((if test then stm.lock_held else stm.lock_to_read) table)
      by true table = keeps-bind (stm.held_lock table) (λ locked. row.Give locked.ticket) (keeps-held_lock table) (λ _. tt)
      by false table = λ id. tt

keeps-wrote : KeepsDefinitions stm.wrote
keeps-wrote state =
    keeps-bind (if state.is_open then row.set after_write else stm.commit_writes) (λ _. row.Give reply.Ok)
    (keeps-either state.is_open (row.set after_write) stm.commit_writes tt (λ lock. tt)) (λ _. tt)

keeps-write : (table : KeyName) (priority : Priority) → KeepsDefinitions (stm.write table priority)
keeps-write table priority state =
    keeps-either (has_locked state.locked) (stm.write_locked table) (stm.write_unlocked table priority)
    (keeps-bind (stm.held_lock table) (λ (locked : Locked). check locked.may_write TableLockedForRead >> stm.wrote) (keeps-held_lock table)
    (λ locked. keeps-bind (check locked.may_write TableLockedForRead) (λ _. stm.wrote) (keeps-check locked.may_write TableLockedForRead) (λ _. keeps-wrote)))
    (keeps-bind stm.no_read_lock (λ _. stm.lock_writes table priority) keeps-no_read_lock
    (λ _ global ticket. keeps-bind (stm.exists ticket) (λ _. stm.wrote) (keeps-exists ticket) (λ _. keeps-wrote)))

keeps-begin : KeepsDefinitions stm.begin_after_commit
keeps-begin = keeps-bind stm.unlock_tables _ keeps-unlock (λ _. tt)

keeps-release_commits : (commit : Option ℕ) → KeepsDefinitions (stm.release_commits commit)
keeps-release_commits None = tt
keeps-release_commits (Some commit) = tt

keeps-release_read_lock : (lock : Option ReadLock) → KeepsDefinitions (stm.release_read_lock lock)
keeps-release_read_lock None = tt
keeps-release_read_lock (Some lock) =
    keeps-bind (stm.release_commits lock.commit) (λ _. row.release lock.global) (keeps-release_commits lock.commit) (λ _. tt)

keeps-give_up : KeepsDefinitions stm.give_up_read_lock
keeps-give_up state =
    keeps-bind (stm.release_read_lock state.read_lock) (λ _. row.set _) (keeps-release_read_lock state.read_lock) (λ _. tt)

keeps-unlock_all : KeepsDefinitions stm.unlock
keeps-unlock_all =
    keeps-bind stm.unlock_tables _ keeps-unlock (λ _. keeps-bind stm.give_up_read_lock (λ _. row.Give reply.Ok) keeps-give_up (λ _. tt))

keeps-flush : KeepsDefinitions stm.flush_after_commit
keeps-flush state = keeps-either (is_some state.read_lock) (row.Give reply.Ok) stm.get_read_lock tt (λ global commit. tt)

keeps-check_writes : (writes : Bool) → KeepsDefinitions (stm.check_writes writes)
keeps-check_writes true = keeps-no_read_lock
keeps-check_writes false = tt

keeps-lock_tables : (locks : List TableLock) → KeepsDefinitions (stm.lock_tables_after_commit locks)
keeps-lock_tables locks =
    let scopes = map stm.ddl_lock (stm.scopes_around (stm.written_tables locks)) in
    let tables = in_key_order (tables_of locks) in
    let wishes = map (stm.table_lock locks) tables in
    keeps-bind stm.unlock_tables _ keeps-unlock
    (λ _. keeps-bind (acquire_all scopes) (stm.lock_named locks) (keeps-locks scopes)
    (λ ids. keeps-bind (acquire_all wishes) (stm.keep_locked locks tables ids) (keeps-locks wishes)
    (λ tickets. keeps-bind (for_each stm.stands tickets) _ (keeps-stands tickets) (λ _. tt))))

keeps-given : (got : Option ℕ) → KeepsDefinitions (stm.given got)
keeps-given None = tt
keeps-given (Some ticket) = tt

keeps-give_back : (lock : KeyName) (held : Option ℕ) → KeepsDefinitions (stm.give_back lock held)
keeps-give_back lock (Some ticket) = tt
keeps-give_back lock None = λ got. keeps-given got

keeps-commit_first : (rest : Row Reply) → KeepsDefinitions rest → KeepsDefinitions (stm.commit_first rest)
keeps-commit_first rest keeps = keeps-bind stm.commit (λ _. rest) keeps-commit (λ _. keeps)

-- ---- what is so behind the first change

-- where there is none, anything is
pub behind-none : (P : Row Reply → Type 0) (asked : Row Reply) → KeepsDefinitions asked → BehindItsChange P asked
behind-none P (row.Give x) keeps = tt
behind-none P (row.Fail number) keeps = tt
behind-none P (row.Room rest) keeps = behind-none P rest keeps
behind-none P (row.Look rest) keeps = λ state. behind-none P (rest state) (keeps state)
behind-none P (row.Set change rest) keeps = behind-none P rest keeps
behind-none P (row.Here rest) keeps = λ mark. behind-none P (rest mark) (keeps mark)
behind-none P (row.Acquire wish rest) keeps = λ id. behind-none P (rest id) (keeps id)
behind-none P (row.Try_acquire wish rest) keeps = λ got. behind-none P (rest got) (keeps got)
behind-none P (row.Last key rest) keeps = λ held. behind-none P (rest held) (keeps held)
behind-none P (row.Upgrade id key mode rest) keeps = λ new. behind-none P (rest new) (keeps new)
behind-none P (row.Downgrade id mode rest) keeps = behind-none P rest keeps
behind-none P (row.Give_up which rest) keeps = behind-none P rest keeps
behind-none P (row.Release id rest) keeps = behind-none P rest keeps
behind-none P (row.Keep rest) keeps = behind-none P rest keeps
behind-none P (row.Read id rest) keeps = λ standing. behind-none P (rest standing) (keeps standing)
behind-none P (row.Redefine id change rest) keeps = absurd keeps
behind-none P (row.Tables_of schema rest) keeps = λ tables. behind-none P (rest tables) (keeps tables)
behind-none P (row.Key_of place rest) keeps = λ key. behind-none P (rest key) (keeps key)
behind-none P (row.Kill target rest) keeps = behind-none P rest keeps

-- a part that changes none, and what comes then
behind : {A : Type 0} (P : Row Reply → Type 0) (first : Row A) (next : A → Row Reply) → KeepsDefinitions first → ((x : A) → BehindItsChange P (next x))
    → BehindItsChange P (first >>= next)
behind P (row.Give x) next keeps later = later x
behind P (row.Fail number) next keeps later = tt
behind P (row.Room rest) next keeps later = behind P rest next keeps later
behind P (row.Look rest) next keeps later = λ state. behind P (rest state) next (keeps state) later
behind P (row.Set change rest) next keeps later = behind P rest next keeps later
behind P (row.Here rest) next keeps later = λ mark. behind P (rest mark) next (keeps mark) later
behind P (row.Acquire wish rest) next keeps later = λ id. behind P (rest id) next (keeps id) later
behind P (row.Try_acquire wish rest) next keeps later = λ got. behind P (rest got) next (keeps got) later
behind P (row.Last key rest) next keeps later = λ held. behind P (rest held) next (keeps held) later
behind P (row.Upgrade id key mode rest) next keeps later = λ new. behind P (rest new) next (keeps new) later
behind P (row.Downgrade id mode rest) next keeps later = behind P rest next keeps later
behind P (row.Give_up which rest) next keeps later = behind P rest next keeps later
behind P (row.Release id rest) next keeps later = behind P rest next keeps later
behind P (row.Keep rest) next keeps later = behind P rest next keeps later
behind P (row.Read id rest) next keeps later = λ standing. behind P (rest standing) next (keeps standing) later
behind P (row.Redefine id change rest) next keeps later = absurd keeps
behind P (row.Tables_of schema rest) next keeps later = λ tables. behind P (rest tables) next (keeps tables) later
behind P (row.Key_of place rest) next keeps later = λ key. behind P (rest key) next (keeps key) later
behind P (row.Kill target rest) next keeps later = behind P rest next keeps later

behind-either : (P : Row Reply → Type 0) (test : Bool) (one other : Row Reply) → BehindItsChange P one → BehindItsChange P other
    → BehindItsChange P (if test then one else other)
behind-either P true one other first second = first
behind-either P false one other first second = second

behind-commit : (P : Row Reply → Type 0) (rest : Row Reply) → BehindItsChange P rest → BehindItsChange P (stm.commit_first rest)
behind-commit P rest so = behind P stm.commit (λ _. rest) keeps-commit (λ _. so)

behind-ddl : (P : Row Reply → Type 0) (rest : Row Reply) → BehindItsChange P rest → BehindItsChange P (stm.ddl_first rest)
behind-ddl P rest so =
    behind P stm.ddl (λ _. rest)
    (keeps-bind stm.no_read_lock _ keeps-no_read_lock (λ _. keeps-bind stm.no_locked_tables (λ _. stm.commit) keeps-no_locked (λ _. keeps-commit)))
    (λ _. so)

-- ---- statements that change one

module _ (P : Row Reply → Type 0) (gives : P (row.Give reply.Ok)) (lowers : (id : ℕ) → P (row.Downgrade id SNRW (row.Give reply.Ok))) where
  behind-create : (table : KeyName) (columns : List (List ℕ)) → BehindItsChange P (stm.create_after_commit table columns)
  behind-create table columns = λ global schema ticket.
      behind P (stm.check_schema schema) _ (keeps-check_schema schema)
      (λ _. behind P (stm.check_new columns ticket) (λ _. stm.make_table columns ticket >> row.Give reply.Ok) (keeps-check_new columns ticket) (λ _. gives))

  behind-create_schema : (name : List ℕ) → BehindItsChange P (stm.create_schema_after_commit name)
  behind-create_schema name = λ global schema.
      behind P (stm.check_new_schema schema) (λ _. row.redefine schema (change.Create Schema) >> row.Give reply.Ok) (keeps-check_new_schema schema) (λ _. gives)

  behind-alter_by : (how : Algorithm) (alteration : Alteration) (table : ℕ) → BehindItsChange P (stm.alter_by how alteration table)
  behind-alter_by Copy alteration table = λ copied alone. gives
  behind-alter_by Inplace alteration table = λ prepared alone. gives

  behind-alter : (alteration : Alteration) → BehindItsChange P (stm.alter_after_commit alteration)
  behind-alter alteration = λ global schema state.
      behind-either P (has_locked state.locked) (stm.alter_locked alteration) (stm.alter_unlocked alteration)
      (λ table. behind P (stm.check_change alteration.change table) (λ _. row.Upgrade table alteration.table X (stm.change_and_lower alteration))
      (keeps-check_change alteration.change table) (λ _ alone. lowers alone))
      (λ table. behind P (stm.check_change alteration.change table) (λ _. stm.alter_by alteration.algorithm alteration table)
      (keeps-check_change alteration.change table) (λ _. behind-alter_by alteration.algorithm alteration table))

  behind-alter_first : (alteration : Alteration) → BehindItsChange P (stm.alter_first alteration.table (stm.alter_after_commit alteration))
  behind-alter_first alteration =
      let rest = stm.alter_after_commit alteration in
      let so = behind-alter alteration in
      behind P stm.no_read_lock _ keeps-no_read_lock
      (λ _ state. behind-either P (has_locked state.locked) (stm.alter_among_locked alteration.table rest) (stm.commit_first rest)
      (behind P (stm.held_lock alteration.table) (λ (locked : Locked). check locked.may_write TableLockedForRead >> stm.commit_first rest)
      (keeps-held_lock alteration.table)
      (λ locked. behind P (check locked.may_write TableLockedForRead) (λ _. stm.commit_first rest) (keeps-check locked.may_write TableLockedForRead)
      (λ _. behind-commit P rest so)))
      (behind-commit P rest so))

-- ---- statements that may change several

finishes-drops : (ids : List ℕ) (rest : Row Reply) → OnlyFinishes rest → OnlyFinishes (for_each (λ id. row.redefine id change.Drop) ids >> rest)
finishes-drops [] rest so = so
finishes-drops (id ∷ ids) rest so = finishes-drops ids rest so

checks-drops : (ids : List ℕ) (rest : Row Reply) → OnlyFinishes rest → ChecksBeforeChanges rest
    → ChecksBeforeChanges (for_each (λ id. row.redefine id change.Drop) ids >> rest)
checks-drops [] rest finishes so = so
checks-drops (id ∷ ids) rest finishes so = finishes-drops ids rest finishes

pub checks-drop_under : (tickets : List ℕ) → ChecksBeforeChanges (stm.drop_under tickets)
checks-drop_under tickets =
    behind OnlyFinishes (for_each stm.stands tickets) _ (keeps-stands tickets)
    (λ _. behind OnlyFinishes (for_each stm.can_change tickets) _ (keeps-versions tickets)
    (λ _. checks-drops tickets (row.Give reply.Ok) refl tt))

checks-drop : (tables : List KeyName) → ChecksBeforeChanges (stm.drop_after_commit tables)
checks-drop tables =
    let scopes = map stm.ddl_lock (global_key ∷ in_key_order (map stm.schema_of tables)) in
    let wishes = map stm.ddl_lock (in_key_order tables) in
    behind OnlyFinishes (acquire_all scopes) (λ _. stm.lock_and_drop tables) (keeps-locks scopes)
    (λ _. behind OnlyFinishes (acquire_all wishes) stm.drop_under (keeps-locks wishes) checks-drop_under)

checks-drop_with : (schema : ℕ) (tables : List ℕ) → ChecksBeforeChanges (stm.drop_with schema tables)
checks-drop_with schema tables =
    behind OnlyFinishes (for_each stm.can_change tables) _ (keeps-versions tables)
    (λ _. behind OnlyFinishes (stm.can_change schema) _ (keeps-version schema)
    (λ _. checks-drops tables (row.redefine schema change.Drop >> row.Give reply.Ok) refl refl))

checks-drop_schema : (name : List ℕ) → ChecksBeforeChanges (stm.drop_schema_after_commit name)
checks-drop_schema name = λ global schema.
    let locked : List KeyName → Row Reply = λ tables. row.room >> (acquire_all (map stm.ddl_lock tables) >>= stm.drop_with schema) in
    behind OnlyFinishes (stm.check_schema schema) _ (keeps-check_schema schema)
    (λ _. behind OnlyFinishes (stm.tables_in name) locked (λ places. keeps-keys [] places)
    (λ tables. behind OnlyFinishes (acquire_all (map stm.ddl_lock tables)) (stm.drop_with schema) (keeps-locks (map stm.ddl_lock tables))
    (checks-drop_with schema)))

checks-rename_under : (schema from to : ℕ) → ChecksBeforeChanges (stm.rename_under schema from to)
checks-rename_under schema from to =
    let moving : Definition → Row Reply = λ definition. stm.check_schema schema >> stm.move_definition definition from to in
    behind OnlyFinishes (stm.check_absent to) (λ _. stm.definition_under from >>= moving) (λ standing. keeps-check (not (stm.is_defined standing)) TableExists)
    (λ _. behind OnlyFinishes (stm.definition_under from) moving (λ standing. keeps-definition standing.definition)
    (λ definition. behind OnlyFinishes (stm.check_schema schema) (λ _. stm.move_definition definition from to) (keeps-check_schema schema)
    (λ _. behind OnlyFinishes (for_each stm.can_change (to ∷ from ∷ [])) _ (keeps-versions (to ∷ from ∷ [])) (λ _. refl))))

checks-rename : (from to : KeyName) → ChecksBeforeChanges (stm.rename_after_commit from to)
checks-rename from to =
    let scopes = stm.both_scopes from to in
    let names = stm.both_names from to in
    behind OnlyFinishes (acquire_all (map stm.ddl_lock scopes)) (λ ids. stm.lock_and_rename from to (locked_ticket (stm.schema_of to) scopes ids))
    (keeps-locks (map stm.ddl_lock scopes))
    (λ ids. behind OnlyFinishes (acquire_all (map stm.ddl_lock names))
    (λ tickets. stm.rename_under (locked_ticket (stm.schema_of to) scopes ids) (locked_ticket from names tickets) (locked_ticket to names tickets))
    (keeps-locks (map stm.ddl_lock names))
    (λ tickets. checks-rename_under (locked_ticket (stm.schema_of to) scopes ids) (locked_ticket from names tickets) (locked_ticket to names tickets)))

-- ---- all statements

-- one that may change several definitions
abbrev pub ChangesSeveral : Statement → Type 0
ChangesSeveral (statement.DropTables tables) = Unit {0}
ChangesSeveral (statement.DropSchema name) = Unit {0}
ChangesSeveral (statement.RenameTable from to) = Unit {0}
ChangesSeveral _ = ⊥

pub behind-others : (P : Row Reply → Type 0) → P (row.Give reply.Ok) → ((id : ℕ) → P (row.Downgrade id SNRW (row.Give reply.Ok)))
    → (asked : Statement) → (ChangesSeveral asked → ⊥) → BehindItsChange P (row_of asked)
behind-others P gives lowers statement.Begin few = behind-commit P stm.begin_after_commit (behind-none P stm.begin_after_commit keeps-begin)
behind-others P gives lowers statement.Commit few = behind-commit P (row.Give reply.Ok) tt
behind-others P gives lowers statement.Rollback few = behind P stm.rollback (λ _. row.Give reply.Ok) keeps-rollback (λ _. tt)
behind-others P gives lowers (statement.Savepoint name) few = behind-none P (stm.save name) (keeps-save name)
behind-others P gives lowers (statement.RollbackTo name) few = behind-none P (stm.rollback_to name) (keeps-rollback_to name)
behind-others P gives lowers (statement.Select tables) few = behind-none P (stm.select tables) (keeps-select tables)
behind-others P gives lowers (statement.Write table priority) few = behind-none P (stm.write table priority) (keeps-write table priority)
behind-others P gives lowers (statement.CreateTable table columns) few =
    behind-ddl P (stm.create_after_commit table columns) (behind-create P gives lowers table columns)
behind-others P gives lowers (statement.CreateSchema name) few =
    behind-ddl P (stm.create_schema_after_commit name) (behind-create_schema P gives lowers name)
behind-others P gives lowers (statement.DropTables tables) few = absurd (few tt)
behind-others P gives lowers (statement.DropSchema name) few = absurd (few tt)
behind-others P gives lowers (statement.RenameTable from to) few = absurd (few tt)
behind-others P gives lowers statement.UnlockTables few = behind-none P stm.unlock keeps-unlock_all
behind-others P gives lowers statement.FlushTablesWithReadLock few =
    behind P stm.no_locked_tables (λ _. stm.commit_first stm.flush_after_commit) keeps-no_locked
    (λ _. behind-commit P stm.flush_after_commit (behind-none P stm.flush_after_commit keeps-flush))
behind-others P gives lowers (statement.AlterTable alteration) few = behind-alter_first P gives lowers alteration
behind-others P gives lowers (statement.LockTables locks) few =
    let rest = stm.lock_tables_after_commit locks in
    behind P (stm.check_writes (stm.writes_any locks)) (λ _. stm.commit_first rest) (keeps-check_writes (stm.writes_any locks))
    (λ _. behind-commit P rest (behind-none P rest (keeps-lock_tables locks)))
behind-others P gives lowers (statement.KillQuery target) few = tt
behind-others P gives lowers statement.Timeout few = tt
behind-others P gives lowers (statement.GetLock name) few = λ id. tt
behind-others P gives lowers (statement.ReleaseLock name) few = behind-none P (stm.release_lock name) (λ held. keeps-give_back (user_lock_key name) held)

pub checks-before : StatementsCheckBeforeTheyChange
checks-before (statement.DropTables tables) = behind-ddl OnlyFinishes (stm.drop_after_commit tables) (checks-drop tables)
checks-before (statement.DropSchema name) = behind-ddl OnlyFinishes (stm.drop_schema_after_commit name) (checks-drop_schema name)
checks-before (statement.RenameTable from to) = behind-ddl OnlyFinishes (stm.rename_after_commit from to) (checks-rename from to)
checks-before asked = behind-others OnlyFinishes refl (λ _. refl) asked (λ none. none)

-- those that change no more than one definition
drops-one : (ticket : ℕ) → ChangesAtMostOnce (stm.drop_under (ticket ∷ []))
drops-one ticket =
    behind OnlyLowers (for_each stm.stands (ticket ∷ [])) _ (keeps-stands (ticket ∷ []))
    (λ _. behind OnlyLowers (for_each stm.can_change (ticket ∷ [])) _ (keeps-versions (ticket ∷ [])) (λ _. refl))

-- DROP TABLE, by what becomes of its tables under their scopes
drops-under : (tables : List KeyName) → ChangesAtMostOnce (stm.lock_and_drop tables) → ChangesAtMostOnce (row_of (statement.DropTables tables))
drops-under tables so =
    let scopes = map stm.ddl_lock (global_key ∷ in_key_order (map stm.schema_of tables)) in
    behind-ddl OnlyLowers (stm.drop_after_commit tables)
    (behind OnlyLowers (acquire_all scopes) (λ _. stm.lock_and_drop tables) (keeps-locks scopes) (λ _. so))

pub changes-once : (asked : Statement) → changes_one asked ≡ true → ChangesAtMostOnce (row_of asked)
changes-once (statement.DropTables []) one = drops-under [] tt
changes-once (statement.DropTables (table ∷ [])) one = drops-under (table ∷ []) drops-one
changes-once (statement.DropTables (table ∷ other ∷ tables)) one = absurd (false≢true one)
changes-once (statement.DropSchema name) one = absurd (false≢true one)
changes-once (statement.RenameTable from to) one = absurd (false≢true one)
changes-once asked one = behind-others OnlyLowers refl (λ _. refl) asked (λ none. none)
