-- Rows that keep to a rule, whatever they are told: how they fail, what they give, and that they lock no tables while a transaction is
-- open.
use Rattle.std.proofs.Common.{◌≡◌, ℕ, Bool, true, false, List, [], ◌∷◌, refl}
use Rattle.std.specs.Prelude.{if◌then◌else◌, is_some, map, not, ◌++◌, Option, Some, None}
use Rattle.mdl_key.specs.Keys.{KeyName, global_key, user_lock_key}
use Rattle.mdl_key.specs.declared.mode.Mode.TheVariants.{X}
use Rattle.mdl_defs.specs.declared.change.Change.{Change}
use Rattle.mdl_defs.specs.declared.change.Change.TheVariants as change
use Rattle.mdl_defs.specs.declared.def_error.DefError.{DefError}
use Rattle.mdl_defs.specs.declared.def_error.DefError.TheVariants as fault
use Rattle.mdl_defs.specs.Changes.{change_fault}
use Rattle.mdl_defs.specs.Columns.{names_twice}
use Rattle.mdl_defs.specs.declared.definition.Definition.{Definition}
use Rattle.mdl_defs.specs.declared.definition.Definition.TheVariants.{Schema}
use Rattle.mdl_defs.specs.declared.versioned_definition.VersionedDefinition.{VersionedDefinition}
use Rattle.mdl_syntax.specs.declared.statement.Algorithm.{Algorithm}
use Rattle.mdl_syntax.specs.declared.statement.Algorithm.TheVariants.{Copy, Inplace}
use Rattle.mdl_syntax.specs.declared.statement.Alteration.{Alteration}
use Rattle.mdl_syntax.specs.declared.table_locks.TableLock.{TableLock}
use Rattle.mdl_syntax.specs.Forms.{tables_of}
use Rattle.mdl_context.specs.declared.request.Mark.{Mark}
use Rattle.mdl_context.specs.Wishes.{Wish}
use Rattle.mdl_rows.specs.declared.error_number.ErrorNumber.{ErrorNumber}
use Rattle.mdl_rows.specs.declared.error_number.ErrorNumber.TheVariants.{SchemaExists, UnknownDatabase, TableExists, DuplicateColumn, CantDropColumn, NoSuchTable, LastColumn, TooManyColumns, VersionLimit}
use Rattle.mdl_rows.specs.declared.state.Locked.{Locked}
use Rattle.mdl_rows.specs.declared.state.ReadLock.{ReadLock}
use Rattle.mdl_rows.specs.declared.reply.Reply.{Reply}
use Rattle.mdl_rows.specs.declared.reply.Reply.TheVariants as reply
use Rattle.mdl_rows.specs.KeyOrder.{in_key_order}
use Rattle.mdl_rows.specs.Rows.{Row, Act, Give, Fail, Room, Look, Set, Here, Acquire, Try_acquire, Last, Give_up, Release, Read, Redefine, Tables_of, Key_of, Kill, ◌>>=◌, ◌>>◌, acquire_all, check, for_each, nothing, redefine, release, room, set, Keep, keep, Upgrade, Downgrade}
use Rattle.mdl_rows.specs.KeyOrder.{locked_ticket}
use Rattle.mdl_rows.specs.States.{State, has_locked, with_open_transaction, unlocked, without_read_lock, locking}
use Rattle.mdl_rows.specs.Statements as rows
use Rattle.mdl_script_laws.specs.RefusalsFirst.{is_early}

-- a session has locked no tables while its transaction is open
abbrev pub IsUnlocked : State → Type 0
IsUnlocked state = state.is_open ≡ true → has_locked state.locked ≡ false

-- a change after which that is so, if it was before
abbrev pub LeavesUnlocked : (State → State) → Type 0
LeavesUnlocked change = (state : State) → IsUnlocked state → IsUnlocked (change state)

-- its failures are of these, what it gives is so, and it locks no tables while a transaction is open
abbrev pub KeepsTo : {A : Type 0} → (ErrorNumber → Type 0) → (A → Type 0) → Row A → Type 0
KeepsTo F P (Give x) = P x
KeepsTo F P (Fail number) = F number
KeepsTo F P (Room rest) = KeepsTo F P rest
KeepsTo F P (Look rest) = (state : State) → KeepsTo F P (rest state)
KeepsTo F P (Set change rest) = LeavesUnlocked change × KeepsTo F P rest
KeepsTo F P (Here rest) = (mark : Mark) → KeepsTo F P (rest mark)
KeepsTo F P (Acquire wish rest) = (id : ℕ) → KeepsTo F P (rest id)
KeepsTo F P (Try_acquire wish rest) = (got : Option ℕ) → KeepsTo F P (rest got)
KeepsTo F P (Last key rest) = (held : Option ℕ) → KeepsTo F P (rest held)
KeepsTo F P (Upgrade id key mode rest) = (id : ℕ) → KeepsTo F P (rest id)
KeepsTo F P (Downgrade id mode rest) = KeepsTo F P rest
KeepsTo F P (Give_up which rest) = KeepsTo F P rest
KeepsTo F P (Release id rest) = KeepsTo F P rest
KeepsTo F P (Keep rest) = KeepsTo F P rest
KeepsTo F P (Read id rest) = (standing : VersionedDefinition) → KeepsTo F P (rest standing)
KeepsTo F P (Redefine id change rest) = KeepsTo F P rest
KeepsTo F P (Tables_of schema rest) = (tables : List ℕ) → KeepsTo F P (rest tables)
KeepsTo F P (Key_of place rest) = (key : KeyName) → KeepsTo F P (rest key)
KeepsTo F P (Kill target rest) = KeepsTo F P rest

-- whatever it is
abbrev pub Any : {A : Type 0} → A → Type 0
Any x = Unit {0}

-- one row after another
pub keeps-bind : {A B : Type 0} (F : ErrorNumber → Type 0) (P : A → Type 0) (Q : B → Type 0) (first : Row A) (next : A → Row B) → KeepsTo F P first
    → ((x : A) → P x → KeepsTo F Q (next x)) → KeepsTo F Q (first >>= next)
keeps-bind F P Q (Give x) next so later = later x so
keeps-bind F P Q (Fail number) next so later = so
keeps-bind F P Q (Room rest) next so later = keeps-bind F P Q rest next so later
keeps-bind F P Q (Look rest) next so later = λ state. keeps-bind F P Q (rest state) next (so state) later
keeps-bind F P Q (Set change rest) next so later = (so.0, keeps-bind F P Q rest next so.1 later)
keeps-bind F P Q (Here rest) next so later = λ mark. keeps-bind F P Q (rest mark) next (so mark) later
keeps-bind F P Q (Acquire wish rest) next so later = λ id. keeps-bind F P Q (rest id) next (so id) later
keeps-bind F P Q (Try_acquire wish rest) next so later = λ got. keeps-bind F P Q (rest got) next (so got) later
keeps-bind F P Q (Last key rest) next so later = λ held. keeps-bind F P Q (rest held) next (so held) later
keeps-bind F P Q (Upgrade id key mode rest) next so later = λ id. keeps-bind F P Q (rest id) next (so id) later
keeps-bind F P Q (Downgrade id mode rest) next so later = keeps-bind F P Q rest next so later
keeps-bind F P Q (Give_up which rest) next so later = keeps-bind F P Q rest next so later
keeps-bind F P Q (Release id rest) next so later = keeps-bind F P Q rest next so later
keeps-bind F P Q (Keep rest) next so later = keeps-bind F P Q rest next so later
keeps-bind F P Q (Read id rest) next so later = λ standing. keeps-bind F P Q (rest standing) next (so standing) later
keeps-bind F P Q (Redefine id change rest) next so later = keeps-bind F P Q rest next so later
keeps-bind F P Q (Tables_of schema rest) next so later = λ tables. keeps-bind F P Q (rest tables) next (so tables) later
keeps-bind F P Q (Key_of place rest) next so later = λ key. keeps-bind F P Q (rest key) next (so key) later
keeps-bind F P Q (Kill target rest) next so later = keeps-bind F P Q rest next so later

-- something is done, and then this follows
pub keeps-then : {B : Type 0} (F : ErrorNumber → Type 0) (Q : B → Type 0) (first : Act) (next : Row B) → KeepsTo F Any first → KeepsTo F Q next
    → KeepsTo F Q (first >> next)
keeps-then F Q first next so later = keeps-bind F Any Q first (λ _. next) so (λ _ _. later)

pub keeps-either : {A : Type 0} (F : ErrorNumber → Type 0) (P : A → Type 0) (test : Bool) (one other : Row A) → KeepsTo F P one → KeepsTo F P other
    → KeepsTo F P (if test then one else other)
keeps-either F P true one other first second = first
keeps-either F P false one other first second = second

pub keeps-check : (F : ErrorNumber → Type 0) (test : Bool) (number : ErrorNumber) → F number → KeepsTo F Any (check test number)
keeps-check F true number so = tt
keeps-check F false number so = so

keeps-each : (F : ErrorNumber → Type 0) (act : ℕ → Act) → ((id : ℕ) → KeepsTo F Any (act id)) → (ids : List ℕ) → KeepsTo F Any (for_each act ids)
keeps-each F act so [] = tt
keeps-each F act so (id ∷ ids) = keeps-then F Any (act id) (for_each act ids) (so id) (keeps-each F act so ids)

keeps-locks : (F : ErrorNumber → Type 0) (wishes : List Wish) → KeepsTo F Any (acquire_all wishes)
keeps-locks F [] = tt
keeps-locks F (wish ∷ wishes) = λ id. keeps-bind F Any Any (acquire_all wishes) (λ tickets. Give (id ∷ tickets)) (keeps-locks F wishes) (λ _ _. tt)

-- ---- rows that fail by no early error

module _ (F : ErrorNumber → Type 0) (late : (number : ErrorNumber) → is_early number ≡ false → F number) where
  pub keeps-commit : KeepsTo F Any rows.commit
  keeps-commit = λ state.
      keeps-either F Any state.is_open (if state.has_written then rows.commit_writes else rows.end_transaction) nothing
      (keeps-either F Any state.has_written rows.commit_writes rows.end_transaction (λ _. ((λ s u e. cc), tt)) ((λ s u e. cc), tt)) tt

  pub keeps-rollback : KeepsTo F Any rows.rollback
  keeps-rollback = λ state. keeps-either F Any state.is_open rows.end_transaction nothing ((λ s u e. cc), tt) tt

  keeps-unlock : KeepsTo F Any rows.unlock_tables
  keeps-unlock = λ state.
      let tickets = map (λ (table : Locked). table.ticket) state.locked ++ state.scopes in
      keeps-then F Any (for_each release tickets) (set unlocked) (keeps-each F release (λ _. tt) tickets) ((λ s u e. refl), tt)

  keeps-release_commits : (commit : Option ℕ) → KeepsTo F Any (rows.release_commits commit)
  keeps-release_commits None = tt
  keeps-release_commits (Some commit) = tt

  keeps-release_read_lock : (lock : Option ReadLock) → KeepsTo F Any (rows.release_read_lock lock)
  keeps-release_read_lock None = tt
  keeps-release_read_lock (Some lock) = keeps-then F Any (rows.release_commits lock.commit) (release lock.global) (keeps-release_commits lock.commit) tt

  keeps-give_up : KeepsTo F Any rows.give_up_read_lock
  keeps-give_up = λ state.
      keeps-then F Any (rows.release_read_lock state.read_lock) (set without_read_lock) (keeps-release_read_lock state.read_lock) ((λ s u. u), tt)

  pub keeps-exists : (ticket : ℕ) → KeepsTo F Any (rows.exists ticket)
  keeps-exists ticket = λ standing.
      keeps-bind F Any Any (check (rows.is_defined standing) NoSuchTable) (λ _. Give standing)
      (keeps-check F (rows.is_defined standing) NoSuchTable (late NoSuchTable refl)) (λ _ _. tt)

  keeps-version : (standing : VersionedDefinition) → KeepsTo F Any (check (rows.has_version_left standing) VersionLimit)
  keeps-version standing = keeps-check F (rows.has_version_left standing) VersionLimit (late VersionLimit refl)

  keeps-new : (columns : List (List ℕ)) (table : ℕ) → KeepsTo F Any (rows.check_new columns table)
  keeps-new columns table = λ standing.
      let twice = check (not (names_twice columns)) DuplicateColumn in
      let version = check (rows.has_version_left standing) VersionLimit in
      keeps-then F Any (check (not (rows.is_defined standing)) TableExists) (twice >> version)
      (keeps-check F (not (rows.is_defined standing)) TableExists (late TableExists refl))
      (keeps-then F Any twice version (keeps-check F (not (names_twice columns)) DuplicateColumn (late DuplicateColumn refl)) (keeps-version standing))

  keeps-new_schema : (schema : ℕ) → KeepsTo F Any (rows.check_new_schema schema)
  keeps-new_schema schema = λ standing.
      keeps-then F Any (check (not (rows.is_defined standing)) SchemaExists) (check (rows.has_version_left standing) VersionLimit)
      (keeps-check F (not (rows.is_defined standing)) SchemaExists (late SchemaExists refl)) (keeps-version standing)

  keeps-told : (told : List KeyName) (places : List ℕ) → KeepsTo F Any (rows.keys_of_places told places)
  keeps-told told [] = tt
  keeps-told told (place ∷ places) = λ key. keeps-told (told ++ key ∷ []) places

  keeps-free : (ticket : ℕ) → KeepsTo F Any (rows.check_absent ticket)
  keeps-free ticket = λ standing. keeps-check F (not (rows.is_defined standing)) TableExists (late TableExists refl)

  keeps-definition : (found : Option Definition) → KeepsTo F Any (rows.has_definition found)
  keeps-definition (Some definition) = tt
  keeps-definition None = late NoSuchTable refl

  keeps-fault : (fault : Option DefError) → KeepsTo F Any (rows.check_fault fault)
  keeps-fault None = tt
  keeps-fault (Some one) = by one where
    by : (one : DefError) → F (rows.fault_number one)
    by fault.DuplicateColumn = late DuplicateColumn refl
    by fault.NoColumn = late CantDropColumn refl
    by fault.LastColumn = late LastColumn refl
    by fault.ManyColumns = late TooManyColumns refl
    by _ = late NoSuchTable refl

  keeps-change : (change : Change) (table : ℕ) → KeepsTo F Any (rows.check_change change table)
  keeps-change change table = λ standing.
      let fault = change_fault standing.definition change in
      keeps-then F Any (rows.check_fault fault) (check (rows.has_version_left standing) VersionLimit) (keeps-fault fault) (keeps-version standing)

  -- those that are told that it is done
  module _ (P : Reply → Type 0) (ok : P reply.Ok) where
    pub keeps-begin : KeepsTo F P rows.begin_after_commit
    keeps-begin = keeps-then F P rows.unlock_tables (set with_open_transaction >> Give reply.Ok) keeps-unlock ((λ s u e. refl), ok)

    pub keeps-unlock_all : KeepsTo F P rows.unlock
    keeps-unlock_all =
        keeps-then F P rows.unlock_tables (rows.give_up_read_lock >> Give reply.Ok) keeps-unlock
        (keeps-then F P rows.give_up_read_lock (Give reply.Ok) keeps-give_up ok)

    pub keeps-flush : KeepsTo F P rows.flush_after_commit
    keeps-flush = λ state.
        keeps-either F P (is_some state.read_lock) (Give reply.Ok) rows.get_read_lock ok (λ global. ((λ s u. u), λ commit. ((λ s u. u), ok)))

    pub keeps-create : (table : KeyName) (columns : List (List ℕ)) → KeepsTo F P (rows.create_after_commit table columns)
    keeps-create table columns = λ global schema ticket.
        keeps-then F P (rows.check_schema schema) (rows.check_new columns ticket >> (rows.make_table columns ticket >> Give reply.Ok))
        (λ over. keeps-check F (rows.is_defined over) UnknownDatabase (late UnknownDatabase refl))
        (keeps-then F P (rows.check_new columns ticket) (rows.make_table columns ticket >> Give reply.Ok) (keeps-new columns ticket) ok)

    pub keeps-create_schema : (name : List ℕ) → KeepsTo F P (rows.create_schema_after_commit name)
    keeps-create_schema name = λ global schema.
        keeps-then F P (rows.check_new_schema schema) (redefine schema (change.Create Schema) >> Give reply.Ok) (keeps-new_schema schema) ok

    keeps-drop_under : (tickets : List ℕ) → KeepsTo F P (rows.drop_under tickets)
    keeps-drop_under tickets =
        let dropping : Act = for_each (λ ticket. redefine ticket change.Drop) tickets in
        keeps-then F P (for_each rows.stands tickets) (for_each rows.can_change tickets >> (dropping >> Give reply.Ok))
        (keeps-each F rows.stands (λ ticket. keeps-bind F Any Any (rows.exists ticket) (λ _. nothing) (keeps-exists ticket) (λ _ _. tt)) tickets)
        (keeps-then F P (for_each rows.can_change tickets) (dropping >> Give reply.Ok)
        (keeps-each F rows.can_change (λ ticket standing. keeps-version standing) tickets)
        (keeps-then F P dropping (Give reply.Ok) (keeps-each F (λ ticket. redefine ticket change.Drop) (λ _. tt) tickets) ok))

    pub keeps-drop : (tables : List KeyName) → KeepsTo F P (rows.drop_after_commit tables)
    keeps-drop tables =
        let scopes = map rows.ddl_lock (global_key ∷ in_key_order (map rows.schema_of tables)) in
        let wishes = map rows.ddl_lock (in_key_order tables) in
        keeps-bind F Any P (acquire_all scopes) (λ _. rows.lock_and_drop tables) (keeps-locks F scopes)
        (λ _ _. keeps-bind F Any P (acquire_all wishes) rows.drop_under (keeps-locks F wishes) (λ tickets _. keeps-drop_under tickets))

    keeps-drop_with : (schema : ℕ) (tables : List ℕ) → KeepsTo F P (rows.drop_with schema tables)
    keeps-drop_with schema tables =
        let dropping : Act = for_each (λ ticket. redefine ticket change.Drop) tables in
        let last : Row Reply = redefine schema change.Drop >> Give reply.Ok in
        keeps-then F P (for_each rows.can_change tables) (rows.can_change schema >> (dropping >> last))
        (keeps-each F rows.can_change (λ ticket standing. keeps-version standing) tables)
        (keeps-then F P (rows.can_change schema) (dropping >> last) (λ standing. keeps-version standing)
        (keeps-then F P dropping last (keeps-each F (λ ticket. redefine ticket change.Drop) (λ _. tt) tables) ok))

    pub keeps-drop_schema : (name : List ℕ) → KeepsTo F P (rows.drop_schema_after_commit name)
    keeps-drop_schema name = λ global schema.
        let locked : List KeyName → Row Reply = λ tables. room >> (acquire_all (map rows.ddl_lock tables) >>= rows.drop_with schema) in
        keeps-then F P (rows.check_schema schema) (rows.tables_in name >>= locked)
        (λ over. keeps-check F (rows.is_defined over) UnknownDatabase (late UnknownDatabase refl))
        (keeps-bind F Any P (rows.tables_in name) locked (λ places. keeps-told [] places)
        (λ tables _. keeps-bind F Any P (acquire_all (map rows.ddl_lock tables)) (rows.drop_with schema) (keeps-locks F (map rows.ddl_lock tables))
        (λ tickets _. keeps-drop_with schema tickets)))

    keeps-move : (definition : Definition) (from to : ℕ) → KeepsTo F P (rows.move_definition definition from to)
    keeps-move definition from to =
        keeps-then F P (for_each rows.can_change (to ∷ from ∷ [])) (redefine to (change.Put definition) >> (redefine from change.Drop >> Give reply.Ok))
        (keeps-each F rows.can_change (λ ticket standing. keeps-version standing) (to ∷ from ∷ [])) ok

    keeps-rename_under : (schema from to : ℕ) → KeepsTo F P (rows.rename_under schema from to)
    keeps-rename_under schema from to =
        let moving : Definition → Row Reply = λ definition. rows.check_schema schema >> rows.move_definition definition from to in
        keeps-then F P (rows.check_absent to) (rows.definition_under from >>= moving) (keeps-free to)
        (keeps-bind F Any P (rows.definition_under from) moving (λ standing. keeps-definition standing.definition)
        (λ definition _. keeps-then F P (rows.check_schema schema) (rows.move_definition definition from to)
        (λ over. keeps-check F (rows.is_defined over) UnknownDatabase (late UnknownDatabase refl)) (keeps-move definition from to)))

    keeps-lock_and_rename : (from to : KeyName) (schema : ℕ) → KeepsTo F P (rows.lock_and_rename from to schema)
    keeps-lock_and_rename from to schema =
        let names = rows.both_names from to in
        keeps-bind F Any P (acquire_all (map rows.ddl_lock names)) (λ tickets. rows.rename_under schema (locked_ticket from names tickets) (locked_ticket to names tickets))
        (keeps-locks F (map rows.ddl_lock names)) (λ tickets _. keeps-rename_under schema (locked_ticket from names tickets) (locked_ticket to names tickets))

    pub keeps-rename : (from to : KeyName) → KeepsTo F P (rows.rename_after_commit from to)
    keeps-rename from to =
        let scopes = rows.both_scopes from to in
        keeps-bind F Any P (acquire_all (map rows.ddl_lock scopes)) (λ tickets. rows.lock_and_rename from to (locked_ticket (rows.schema_of to) scopes tickets))
        (keeps-locks F (map rows.ddl_lock scopes)) (λ tickets _. keeps-lock_and_rename from to (locked_ticket (rows.schema_of to) scopes tickets))

    keeps-alter_by : (how : Algorithm) (alteration : Alteration) (table : ℕ) → KeepsTo F P (rows.alter_by how alteration table)
    keeps-alter_by Copy alteration table = λ copied alone. ok
    keeps-alter_by Inplace alteration table = λ prepared alone. ok

    pub keeps-alter : (alteration : Alteration) → KeepsTo F P (rows.alter_after_commit alteration)
    keeps-alter alteration = λ global schema state.
        keeps-either F P (has_locked state.locked) (rows.alter_locked alteration) (rows.alter_unlocked alteration)
        (λ table. keeps-then F P (rows.check_change alteration.change table) (Upgrade table alteration.table X (rows.change_and_lower alteration))
        (keeps-change alteration.change table) (λ alone. ok))
        (λ table. keeps-then F P (rows.check_change alteration.change table) (rows.alter_by alteration.algorithm alteration table)
        (keeps-change alteration.change table) (keeps-alter_by alteration.algorithm alteration table))

    keeps-keep_locked : (locks : List TableLock) (tables : List KeyName) (scopes tickets : List ℕ) → KeepsTo F P (rows.keep_locked locks tables scopes tickets)
    keeps-keep_locked locks tables scopes tickets =
        keeps-then F P (for_each rows.stands tickets) (room >> (keep >> (set (locking (rows.locked_by locks tables tickets) scopes) >> Give reply.Ok)))
        (keeps-each F rows.stands (λ ticket. keeps-bind F Any Any (rows.exists ticket) (λ _. nothing) (keeps-exists ticket) (λ _ _. tt)) tickets)
        ((λ s u e. cc), ok)

    pub keeps-lock_tables : (locks : List TableLock) → KeepsTo F P (rows.lock_tables_after_commit locks)
    keeps-lock_tables locks =
        let scopes = map rows.ddl_lock (rows.scopes_around (rows.written_tables locks)) in
        let tables = in_key_order (tables_of locks) in
        let wishes = map (rows.table_lock locks) tables in
        keeps-then F P rows.unlock_tables (room >> (acquire_all scopes >>= rows.lock_named locks)) keeps-unlock
        (keeps-bind F Any P (acquire_all scopes) (rows.lock_named locks) (keeps-locks F scopes)
        (λ ids _. keeps-bind F Any P (acquire_all wishes) (rows.keep_locked locks tables ids) (keeps-locks F wishes)
        (λ tickets _. keeps-keep_locked locks tables ids tickets)))

  -- those that are told whether a user-level lock is had, or that it was free
  module _ (P : Reply → Type 0) (number : (truth : Bool) → P (reply.Number truth)) where
    pub keeps-get_lock : (name : List ℕ) → KeepsTo F P (rows.get_lock name)
    keeps-get_lock name = λ id. number true

    keeps-given : P reply.Null → (got : Option ℕ) → KeepsTo F P (rows.given got)
    keeps-given null None = number false
    keeps-given null (Some ticket) = null

    keeps-give_back : P reply.Null → (lock : KeyName) (held : Option ℕ) → KeepsTo F P (rows.give_back lock held)
    keeps-give_back null lock (Some ticket) = number true
    keeps-give_back null lock None = λ got. keeps-given null got

    pub keeps-release_lock : P reply.Null → (name : List ℕ) → KeepsTo F P (rows.release_lock name)
    keeps-release_lock null name = λ held. keeps-give_back null (user_lock_key name) held
