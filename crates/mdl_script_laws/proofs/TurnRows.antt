-- How many locks each statement asks for.
use Rattle.std.proofs.Common.{◌≡◌, ℕ, suc, ◌+◌, ◌-◌, ◌*◌, ◌≤◌, Bool, true, false, List, [], ◌∷◌, ◌++◌, length, map, filter, Option, Some, None, refl, arith}
use Rattle.std.specs.Prelude.{find, if◌then◌else◌, is_some, not}
use Rattle.std.proofs.lemmas.List.{length-append, length-map}
use Rattle.std.specs.declared.cmp.Ordering.{Ordering}
use Rattle.std.specs.declared.cmp.Ordering.TheVariants.{Less, Equal, Greater}
use Rattle.mdl_key.specs.Keys.{KeyName, global_key, key_cmp, key_eq, user_lock_key}
use Rattle.mdl_key.specs.declared.mode.Mode.TheVariants.{X}
use Rattle.mdl_defs.specs.declared.change.Change.{Change}
use Rattle.mdl_defs.specs.declared.change.Change.TheVariants as change
use Rattle.mdl_defs.specs.declared.definition.Definition.{Definition}
use Rattle.mdl_defs.specs.declared.def_error.DefError.{DefError}
use Rattle.mdl_defs.specs.Changes.{change_fault}
use Rattle.mdl_defs.specs.Columns.{names_twice}
use Rattle.mdl_context.specs.declared.request.Mark.{Mark}
use Rattle.mdl_context.specs.Wishes.{Wish}
use Rattle.mdl_syntax.specs.declared.statement.Algorithm.{Algorithm}
use Rattle.mdl_syntax.specs.declared.statement.Algorithm.TheVariants.{Copy, Inplace}
use Rattle.mdl_syntax.specs.declared.statement.Alteration.{Alteration}
use Rattle.mdl_syntax.specs.declared.statement.Priority.{Priority}
use Rattle.mdl_syntax.specs.declared.statement.Statement.{Statement}
use Rattle.mdl_syntax.specs.declared.statement.Statement.TheVariants as statement
use Rattle.mdl_syntax.specs.declared.table_locks.TableLock.{TableLock}
use Rattle.mdl_syntax.specs.Forms.{tables_of}
use Rattle.mdl_syntax.specs.Laws.{IsWithinLimits}
use Rattle.mdl_rows.specs.declared.error_number.ErrorNumber.{ErrorNumber}
use Rattle.mdl_rows.specs.declared.error_number.ErrorNumber.TheVariants.{NoSuchTable, ConflictingReadLock, ActiveLocks, SchemaExists, UnknownDatabase, TableExists, DuplicateColumn, VersionLimit, TableLockedForRead}
use Rattle.mdl_rows.specs.declared.state.Locked.{Locked}
use Rattle.mdl_rows.specs.declared.state.ReadLock.{ReadLock}
use Rattle.mdl_rows.specs.declared.reply.Reply.{Reply}
use Rattle.mdl_rows.specs.declared.reply.Reply.TheVariants as reply
use Rattle.mdl_rows.specs.declared.reply.TableShown.{TableShown}
use Rattle.mdl_rows.specs.KeyOrder.{in_key_order, inserted_in_order, placed_all, put}
use Rattle.mdl_rows.specs.KeyOrder.{locked_ticket}
use Rattle.mdl_rows.specs.Rows.{Row, Act, ◌>>=◌, ◌>>◌, check, nothing, acquire_all, for_each}
use Rattle.mdl_rows.specs.Rows as row
use Rattle.mdl_rows.specs.Statements as stm
use Rattle.mdl_rows.specs.States.{has_locked, after_write, savepoint_mark}
use Rattle.mdl_script_laws.specs.Turns.{AsksForAtMost, StatementsAskForFewLocks, most_locks, most_locks_of}

-- ---- bounds

-- one bound, and a greater one
pub few-more : {A : Type 0} (n m : ℕ) (asked : Row A) → n ≤ m → AsksForAtMost n asked → AsksForAtMost m asked
few-more n m (row.Give x) less is = tt
few-more n m (row.Fail number) less is = tt
few-more n m (row.Room rest) less is = few-more n m rest less is
few-more n m (row.Look rest) less is = λ state. few-more n m (rest state) less (is state)
few-more n m (row.Set change rest) less is = few-more n m rest less is
few-more n m (row.Here rest) less is = λ mark. few-more n m (rest mark) less (is mark)
few-more n m (row.Acquire wish rest) less (fewer, same, is) =
    let at : m ≡ suc (m - 1) = omega (arith, less, same) in
    let below : fewer ≤ m - 1 = omega (arith, less, same) in
    (m - 1, at, λ id. few-more fewer (m - 1) (rest id) below (is id))
few-more n m (row.Try_acquire wish rest) less is = λ got. few-more n m (rest got) less (is got)
few-more n m (row.Last key rest) less is = λ held. few-more n m (rest held) less (is held)
few-more n m (row.Upgrade id key mode rest) less (fewer, same, is) =
    let at : m ≡ suc (m - 1) = omega (arith, less, same) in
    let below : fewer ≤ m - 1 = omega (arith, less, same) in
    (m - 1, at, λ id. few-more fewer (m - 1) (rest id) below (is id))
few-more n m (row.Downgrade id mode rest) less is = few-more n m rest less is
few-more n m (row.Give_up which rest) less is = few-more n m rest less is
few-more n m (row.Release id rest) less is = few-more n m rest less is
few-more n m (row.Keep rest) less is = few-more n m rest less is
few-more n m (row.Read id rest) less is = λ standing. few-more n m (rest standing) less (is standing)
few-more n m (row.Redefine id change rest) less is = few-more n m rest less is
few-more n m (row.Tables_of schema rest) less is = λ tables few. few-more n m (rest tables) less (is tables few)
few-more n m (row.Key_of place rest) less is = λ key. few-more n m (rest key) less (is key)
few-more n m (row.Kill target rest) less is = few-more n m rest less is

-- one row after another
few-then : {A B : Type 0} (n m most : ℕ) (first : Row A) (next : A → Row B) → n + m ≤ most → AsksForAtMost n first → ((x : A) → AsksForAtMost m (next x))
    → AsksForAtMost most (first >>= next)
few-then n m most (row.Give x) next less is rest = few-more m most (next x) (omega (arith, less)) (rest x)
few-then n m most (row.Fail number) next less is rest = tt
few-then n m most (row.Room more) next less is rest = few-then n m most more next less is rest
few-then n m most (row.Look more) next less is rest = λ state. few-then n m most (more state) next less (is state) rest
few-then n m most (row.Set change more) next less is rest = few-then n m most more next less is rest
few-then n m most (row.Here more) next less is rest = λ mark. few-then n m most (more mark) next less (is mark) rest
few-then n m most (row.Acquire wish more) next less (fewer, same, is) rest =
    let at : most ≡ suc (most - 1) = omega (arith, less, same) in
    let below : fewer + m ≤ most - 1 = omega (arith, less, same) in
    (most - 1, at, λ id. few-then fewer m (most - 1) (more id) next below (is id) rest)
few-then n m most (row.Try_acquire wish more) next less is rest = λ got. few-then n m most (more got) next less (is got) rest
few-then n m most (row.Last key more) next less is rest = λ held. few-then n m most (more held) next less (is held) rest
few-then n m most (row.Upgrade id key mode more) next less (fewer, same, is) rest =
    let at : most ≡ suc (most - 1) = omega (arith, less, same) in
    let below : fewer + m ≤ most - 1 = omega (arith, less, same) in
    (most - 1, at, λ id. few-then fewer m (most - 1) (more id) next below (is id) rest)
few-then n m most (row.Downgrade id mode more) next less is rest = few-then n m most more next less is rest
few-then n m most (row.Give_up which more) next less is rest = few-then n m most more next less is rest
few-then n m most (row.Release id more) next less is rest = few-then n m most more next less is rest
few-then n m most (row.Keep more) next less is rest = few-then n m most more next less is rest
few-then n m most (row.Read id more) next less is rest = λ standing. few-then n m most (more standing) next less (is standing) rest
few-then n m most (row.Redefine id change more) next less is rest = few-then n m most more next less is rest
few-then n m most (row.Tables_of schema more) next less is rest = λ tables few. few-then n m most (more tables) next less (is tables few) rest
few-then n m most (row.Key_of place more) next less is rest = λ key. few-then n m most (more key) next less (is key) rest
few-then n m most (row.Kill target more) next less is rest = few-then n m most more next less is rest

-- one row or the other, by a test
few-either : {A : Type 0} (n : ℕ) (test : Bool) (one other : Row A) → AsksForAtMost n one → AsksForAtMost n other → AsksForAtMost n (if test then one else other)
few-either n true one other first second = first
few-either n false one other first second = second

-- a check
few-checked : (test : Bool) (number : ErrorNumber) → AsksForAtMost 0 (check test number)
few-checked true number = tt
few-checked false number = tt

-- and what follows
few-check : {A : Type 0} (n : ℕ) (test : Bool) (number : ErrorNumber) (rest : Row A) → AsksForAtMost n rest → AsksForAtMost n (check test number >> rest)
few-check n true number rest is = is
few-check n false number rest is = tt

-- locks, one after the other
few-acquire_all : (wishes : List Wish) → AsksForAtMost (length wishes) (acquire_all wishes)
few-acquire_all [] = tt
few-acquire_all (wish ∷ wishes) =
    let n = length wishes in
    (n, omega arith, λ ticket. few-then n 0 n (acquire_all wishes) (λ tickets. row.Give (ticket ∷ tickets)) (omega arith) (few-acquire_all wishes) (λ _. tt))

-- the same for each, that asks for no lock
few-for_each : (act : ℕ → Act) (ids : List ℕ) → ((id : ℕ) → AsksForAtMost 0 (act id)) → AsksForAtMost 0 (for_each act ids)
few-for_each act [] each = tt
few-for_each act (id ∷ ids) each = few-then 0 0 0 (act id) (λ _. for_each act ids) (omega arith) (each id) (λ _. few-for_each act ids each)

-- ---- transactions

few-end_under : (n lock : ℕ) → AsksForAtMost n (stm.end_under lock)
few-end_under n lock = tt

few-commit_writes : AsksForAtMost 1 stm.commit_writes
few-commit_writes = (0, refl, λ lock. tt)

few-commit : AsksForAtMost 1 stm.commit
few-commit state =
    few-either 1 state.is_open (if state.has_written then stm.commit_writes else stm.end_transaction) nothing
    (few-either 1 state.has_written stm.commit_writes stm.end_transaction few-commit_writes tt) tt

few-rollback : AsksForAtMost 0 stm.rollback
few-rollback state = few-either 0 state.is_open stm.end_transaction nothing tt tt

few-commit_first : (n : ℕ) (rest : Row Reply) → AsksForAtMost n rest → AsksForAtMost (suc n) (stm.commit_first rest)
few-commit_first n rest is = few-then 1 n (suc n) stm.commit (λ _. rest) (omega arith) few-commit (λ _. is)

-- ---- locked tables

few-unlock : AsksForAtMost 0 stm.unlock_tables
few-unlock state =
    let ids = map (λ (table : Locked). table.ticket) state.locked ++ state.scopes in
    few-then 0 0 0 (for_each row.release ids) (λ _. row.set _) (omega arith) (few-for_each row.release ids (λ id. tt)) (λ _. tt)

few-release_commits : (commit : Option ℕ) → AsksForAtMost 0 (stm.release_commits commit)
few-release_commits None = tt
few-release_commits (Some commit) = tt

few-release_read_lock : (lock : Option ReadLock) → AsksForAtMost 0 (stm.release_read_lock lock)
few-release_read_lock None = tt
few-release_read_lock (Some lock) =
    few-then 0 0 0 (stm.release_commits lock.commit) (λ _. row.release lock.global) (omega arith) (few-release_commits lock.commit) (λ _. tt)

few-give_up : AsksForAtMost 0 stm.give_up_read_lock
few-give_up state =
    few-then 0 0 0 (stm.release_read_lock state.read_lock) (λ _. row.set _) (omega arith) (few-release_read_lock state.read_lock) (λ _. tt)

few-no_read_lock : AsksForAtMost 0 stm.no_read_lock
few-no_read_lock state = few-checked (not (is_some state.read_lock)) ConflictingReadLock

few-no_locked : AsksForAtMost 0 stm.no_locked_tables
few-no_locked state = few-checked (not (has_locked state.locked)) ActiveLocks

few-held_lock : (n : ℕ) (table : KeyName) → AsksForAtMost n (stm.held_lock table)
few-held_lock n table state = by (find (λ (locked : Locked). key_eq table locked.key) state.locked) where
  by : (found : Option Locked) → AsksForAtMost n (stm.among_locked found)
  by (Some locked) = tt
  by None = tt

-- ---- what stands

few-exists : (ticket : ℕ) → AsksForAtMost 0 (stm.exists ticket)
few-exists ticket standing = few-check 0 (stm.is_defined standing) NoSuchTable (row.Give standing) tt

-- ---- SAVEPOINT, ROLLBACK TO

few-save : (name : List ℕ) → AsksForAtMost 0 (stm.save name)
few-save name state =
    few-then 0 0 0 (if state.is_open then stm.save_here name else nothing) (λ _. row.Give reply.Ok) (omega arith)
    (few-either 0 state.is_open (stm.save_here name) nothing (λ mark. tt) tt) (λ _. tt)

few-rollback_to : (name : List ℕ) → AsksForAtMost 0 (stm.rollback_to name)
few-rollback_to name state = by (savepoint_mark name state.savepoints) where
  by : (mark : Option Mark) → AsksForAtMost 0 (stm.go_back name mark)
  by None = tt
  by (Some mark) = tt

-- ---- SELECT

few-show : (shown : List TableShown) (table : KeyName) (ticket : ℕ) → AsksForAtMost 0 (stm.show shown table ticket)
few-show shown table ticket = few-then 0 0 0 (stm.exists ticket) _ (omega arith) (few-exists ticket) (λ standing. tt)

few-show_all : (lock : KeyName → Row ℕ) (shown : List TableShown) (tables : List KeyName) → ((table : KeyName) → AsksForAtMost 1 (lock table))
    → AsksForAtMost (length tables) (stm.show_all lock shown tables)
few-show_all lock shown [] each = tt
few-show_all lock shown (table ∷ tables) each =
    let n = length tables in
    few-then 1 n (length (table ∷ tables)) (lock table) (λ ticket. stm.show shown table ticket >>= (λ more. stm.show_all lock more tables)) (omega arith)
    (each table)
    (λ ticket. few-then 0 n n (stm.show shown table ticket) (λ more. stm.show_all lock more tables) (omega arith) (few-show shown table ticket)
    (λ more. few-show_all lock more tables each))

few-lock_held : (table : KeyName) → AsksForAtMost 1 (stm.lock_held table)
few-lock_held table = few-then 1 0 1 (stm.held_lock table) (λ locked. row.Give locked.ticket) (omega arith) (few-held_lock 1 table) (λ _. tt)

few-lock_to_read : (table : KeyName) → AsksForAtMost 1 (stm.lock_to_read table)
few-lock_to_read table = (0, refl, λ id. tt)

few-select : (tables : List KeyName) → AsksForAtMost (length tables) (stm.select tables)
few-select tables state =
    few-show_all (if has_locked state.locked then stm.lock_held else stm.lock_to_read) [] tables (by (has_locked state.locked)) where
      by : (test : Bool) (table : KeyName) → AsksForAtMost 1 ((if test then stm.lock_held else stm.lock_to_read) table)
      by true = few-lock_held
      by false = few-lock_to_read

-- ---- INSERT, UPDATE, DELETE

few-wrote : AsksForAtMost 1 stm.wrote
few-wrote state =
    few-then 1 0 1 (if state.is_open then row.set after_write else stm.commit_writes) (λ _. row.Give reply.Ok) (omega arith)
    (few-either 1 state.is_open (row.set after_write) stm.commit_writes tt few-commit_writes) (λ _. tt)

few-write_under : (ticket : ℕ) → AsksForAtMost 1 (stm.write_under ticket)
few-write_under ticket = few-then 0 1 1 (stm.exists ticket) (λ _. stm.wrote) (omega arith) (few-exists ticket) (λ _. few-wrote)

few-write_unlocked : (table : KeyName) (priority : Priority) → AsksForAtMost 3 (stm.write_unlocked table priority)
few-write_unlocked table priority =
    few-then 0 3 3 stm.no_read_lock _ (omega arith) few-no_read_lock (λ _. (2, refl, λ global. (1, refl, λ ticket. few-write_under ticket)))

few-write_locked : (table : KeyName) → AsksForAtMost 3 (stm.write_locked table)
few-write_locked table =
    few-then 0 3 3 (stm.held_lock table) _ (omega arith) (few-held_lock 0 table)
    (λ locked. few-check 3 locked.may_write TableLockedForRead stm.wrote (few-more 1 3 stm.wrote (omega arith) few-wrote))

few-write : (table : KeyName) (priority : Priority) → AsksForAtMost 3 (stm.write table priority)
few-write table priority state =
    few-either 3 (has_locked state.locked) (stm.write_locked table) (stm.write_unlocked table priority) (few-write_locked table)
    (few-write_unlocked table priority)

-- ---- CREATE TABLE, CREATE SCHEMA, DROP TABLE, DROP SCHEMA, RENAME TABLE

few-ddl_first : (n : ℕ) (rest : Row Reply) → AsksForAtMost n rest → AsksForAtMost (suc n) (stm.ddl_first rest)
few-ddl_first n rest is =
    few-then 1 n (suc n) stm.ddl (λ _. rest) (omega arith)
    (few-then 0 1 1 stm.no_read_lock _ (omega arith) few-no_read_lock
    (λ _. few-then 0 1 1 stm.no_locked_tables _ (omega arith) few-no_locked (λ _. few-commit))) (λ _. is)

few-check_schema : (schema : ℕ) → AsksForAtMost 0 (stm.check_schema schema)
few-check_schema schema standing = few-checked (stm.is_defined standing) UnknownDatabase

few-check_new : (columns : List (List ℕ)) (table : ℕ) → AsksForAtMost 0 (stm.check_new columns table)
few-check_new columns table standing =
    few-check 0 (not (stm.is_defined standing)) TableExists _
    (few-check 0 (not (names_twice columns)) DuplicateColumn _ (few-checked (stm.has_version_left standing) VersionLimit))

few-create_under : (columns : List (List ℕ)) (schema table : ℕ) → AsksForAtMost 0 (stm.create_under columns schema table)
few-create_under columns schema table =
    few-then 0 0 0 (stm.check_schema schema) _ (omega arith) (few-check_schema schema)
    (λ _. few-then 0 0 0 (stm.check_new columns table) _ (omega arith) (few-check_new columns table) (λ _. tt))

few-create : (table : KeyName) (columns : List (List ℕ)) → AsksForAtMost 3 (stm.create_after_commit table columns)
few-create table columns = (2, refl, λ global. (1, refl, λ schema. (0, refl, λ ticket. few-create_under columns schema ticket)))

few-check_new_schema : (schema : ℕ) → AsksForAtMost 0 (stm.check_new_schema schema)
few-check_new_schema schema standing =
    few-check 0 (not (stm.is_defined standing)) SchemaExists _ (few-checked (stm.has_version_left standing) VersionLimit)

few-create_schema_under : (schema : ℕ) → AsksForAtMost 0 (stm.create_schema_under schema)
few-create_schema_under schema = few-then 0 0 0 (stm.check_new_schema schema) _ (omega arith) (few-check_new_schema schema) (λ _. tt)

few-create_schema : (name : List ℕ) → AsksForAtMost 2 (stm.create_schema_after_commit name)
few-create_schema name = (1, refl, λ global. (0, refl, λ schema. few-create_schema_under schema))

few-drop_under : (tickets : List ℕ) → AsksForAtMost 0 (stm.drop_under tickets)
few-drop_under tickets =
    few-then 0 0 0 (for_each stm.stands tickets) _ (omega arith)
    (few-for_each stm.stands tickets (λ id. few-then 0 0 0 (stm.exists id) (λ _. nothing) (omega arith) (few-exists id) (λ _. tt)))
    (λ _. few-then 0 0 0 (for_each stm.can_change tickets) _ (omega arith)
    (few-for_each stm.can_change tickets (λ id standing. few-checked (stm.has_version_left standing) VersionLimit))
    (λ _. few-then 0 0 0 (for_each (λ ticket. row.redefine ticket change.Drop) tickets) _ (omega arith)
    (few-for_each (λ ticket. row.redefine ticket change.Drop) tickets (λ id. tt)) (λ _. tt)))

-- keys in their order are no more than the keys
length-put : (key other : KeyName) (how : Ordering) (others behind : List KeyName) → length behind ≤ suc (length others)
    → length (put key how other others behind) ≤ suc (length (other ∷ others))
length-put key other Less others behind less = omega (arith, less)
length-put key other Equal others behind less = omega (arith, less)
length-put key other Greater others behind less = omega (arith, less)

length-placed : (key : KeyName) (keys : List KeyName) → length (inserted_in_order key keys) ≤ suc (length keys)
length-placed key [] = omega arith
length-placed key (other ∷ others) = length-put key other (key_cmp key other) others (inserted_in_order key others) (length-placed key others)

length-placed_all : (keys among : List KeyName) → length (placed_all keys among) ≤ length keys + length among
length-placed_all [] among = omega arith
length-placed_all (key ∷ keys) among =
    let one = length-placed key among in
    let rest = length-placed_all keys (inserted_in_order key among) in
    omega (arith, one, rest)

length-in_order : (keys : List KeyName) → length (in_key_order keys) ≤ length keys
length-in_order keys = let most = length-placed_all keys [] in omega (arith, most)

few-lock_and_drop : (tables : List KeyName) → AsksForAtMost (length tables) (stm.lock_and_drop tables)
few-lock_and_drop tables =
    let wishes = map stm.ddl_lock (in_key_order tables) in
    let count = length-map (in_key_order tables) stm.ddl_lock in
    let most = length-in_order tables in
    few-then (length wishes) 0 (length tables) (acquire_all wishes) stm.drop_under (omega (arith, count, most)) (few-acquire_all wishes) few-drop_under

few-drop : (tables : List KeyName) → AsksForAtMost (1 + length tables + length tables) (stm.drop_after_commit tables)
few-drop tables =
    let schemas = in_key_order (map stm.schema_of tables) in
    let wishes = map stm.ddl_lock (global_key ∷ schemas) in
    let n = length tables in
    let count = length-map (global_key ∷ schemas) stm.ddl_lock in
    let most = length-in_order (map stm.schema_of tables) in
    let all = length-map tables stm.schema_of in
    few-then (length wishes) n (1 + n + n) (acquire_all wishes) (λ scopes. stm.lock_and_drop tables) (omega (arith, count, most, all)) (few-acquire_all wishes)
    (λ scopes. few-lock_and_drop tables)

few-drop_with : (schema : ℕ) (tables : List ℕ) → AsksForAtMost 0 (stm.drop_with schema tables)
few-drop_with schema tables =
    few-then 0 0 0 (for_each stm.can_change tables) _ (omega arith)
    (few-for_each stm.can_change tables (λ id standing. few-checked (stm.has_version_left standing) VersionLimit))
    (λ _. few-then 0 0 0 (stm.can_change schema) _ (omega arith) (λ standing. few-checked (stm.has_version_left standing) VersionLimit)
    (λ _. few-then 0 0 0 (for_each (λ ticket. row.redefine ticket change.Drop) tables) _ (omega arith)
    (few-for_each (λ ticket. row.redefine ticket change.Drop) tables (λ id. tt)) (λ _. tt)))

-- the tables that are told are locked, as many as there are places
few-keys : (schema : ℕ) (told : List KeyName) (places : List ℕ) (most : ℕ) → length told + length places ≤ most
    → AsksForAtMost most (stm.keys_of_places told places >>= (λ tables. row.room >> (acquire_all (map stm.ddl_lock tables) >>= stm.drop_with schema)))
few-keys schema told [] most less =
    let wishes = map stm.ddl_lock told in
    let count = length-map told stm.ddl_lock in
    few-then (length wishes) 0 most (acquire_all wishes) (stm.drop_with schema) (omega (arith, count, less)) (few-acquire_all wishes) (few-drop_with schema)
few-keys schema told (place ∷ places) most less = λ key.
    let longer = length-append told (key ∷ []) in
    few-keys schema (told ++ key ∷ []) places most (omega (arith, less, longer))

few-drop_schema_under : (name : List ℕ) (schema : ℕ) → AsksForAtMost 256 (stm.drop_schema_under name schema)
few-drop_schema_under name schema =
    few-then 0 256 256 (stm.check_schema schema) _ (omega arith) (few-check_schema schema)
    (λ _ places few. few-keys schema [] places 256 (omega (arith, few)))

few-drop_schema : (name : List ℕ) → AsksForAtMost (2 + 256) (stm.drop_schema_after_commit name)
few-drop_schema name = (1 + 256, refl, λ global. (256, refl, λ schema. few-drop_schema_under name schema))

few-free : (ticket : ℕ) → AsksForAtMost 0 (stm.check_absent ticket)
few-free ticket standing = few-checked (not (stm.is_defined standing)) TableExists

few-definition : (found : Option Definition) → AsksForAtMost 0 (stm.has_definition found)
few-definition (Some definition) = tt
few-definition None = tt

few-move : (definition : Definition) (from to : ℕ) → AsksForAtMost 0 (stm.move_definition definition from to)
few-move definition from to =
    few-then 0 0 0 (for_each stm.can_change (to ∷ from ∷ [])) _ (omega arith)
    (few-for_each stm.can_change (to ∷ from ∷ []) (λ id standing. few-checked (stm.has_version_left standing) VersionLimit)) (λ _. tt)

few-rename_under : (schema from to : ℕ) → AsksForAtMost 0 (stm.rename_under schema from to)
few-rename_under schema from to =
    few-then 0 0 0 (stm.check_absent to) _ (omega arith) (few-free to)
    (λ _. few-then 0 0 0 (stm.definition_under from) _ (omega arith) (λ standing. few-definition standing.definition)
    (λ definition. few-then 0 0 0 (stm.check_schema schema) _ (omega arith) (few-check_schema schema) (λ _. few-move definition from to)))

few-lock_and_rename : (from to : KeyName) (schema : ℕ) → AsksForAtMost 2 (stm.lock_and_rename from to schema)
few-lock_and_rename from to schema =
    let names = stm.both_names from to in
    let wishes = map stm.ddl_lock names in
    let count = length-map names stm.ddl_lock in
    let most = length-in_order (from ∷ to ∷ []) in
    few-then (length wishes) 0 2 (acquire_all wishes) (λ tickets. stm.rename_under schema (locked_ticket from names tickets) (locked_ticket to names tickets))
    (omega (arith, count, most)) (few-acquire_all wishes)
    (λ tickets. few-rename_under schema (locked_ticket from names tickets) (locked_ticket to names tickets))

few-rename : (from to : KeyName) → AsksForAtMost 5 (stm.rename_after_commit from to)
few-rename from to =
    let scopes = stm.both_scopes from to in
    let wishes = map stm.ddl_lock scopes in
    let count = length-map scopes stm.ddl_lock in
    let most = length-in_order (map stm.schema_of (from ∷ to ∷ [])) in
    few-then (length wishes) 2 5 (acquire_all wishes) (λ tickets. stm.lock_and_rename from to (locked_ticket (stm.schema_of to) scopes tickets))
    (omega (arith, count, most)) (few-acquire_all wishes)
    (λ tickets. few-lock_and_rename from to (locked_ticket (stm.schema_of to) scopes tickets))

-- ---- ALTER TABLE

few-fault : (fault : Option DefError) → AsksForAtMost 0 (stm.check_fault fault)
few-fault None = tt
few-fault (Some fault) = tt

few-check_change : (change : Change) (table : ℕ) → AsksForAtMost 0 (stm.check_change change table)
few-check_change change table standing =
    few-then 0 0 0 (stm.check_fault (change_fault standing.definition change)) (λ _. check (stm.has_version_left standing) VersionLimit) (omega arith)
    (few-fault (change_fault standing.definition change)) (λ _. few-checked (stm.has_version_left standing) VersionLimit)

few-raise : (alteration : Alteration) (table : ℕ) → AsksForAtMost 1 (stm.raise_and_change alteration table)
few-raise alteration table = (0, refl, λ alone. tt)

few-alter_by : (how : Algorithm) (alteration : Alteration) (table : ℕ) → AsksForAtMost 2 (stm.alter_by how alteration table)
few-alter_by Copy alteration table = (1, refl, λ copied. few-raise alteration copied)
few-alter_by Inplace alteration table = (1, refl, λ prepared. few-raise alteration prepared)

few-alter_unlocked : (alteration : Alteration) → AsksForAtMost 3 (stm.alter_unlocked alteration)
few-alter_unlocked alteration = (
  2,
  refl,
  λ table. few-then 0 2 2 (stm.check_change alteration.change table) (λ _. stm.alter_by alteration.algorithm alteration table) (omega arith)
      (few-check_change alteration.change table) (λ _. few-alter_by alteration.algorithm alteration table),
)

few-alter_locked : (alteration : Alteration) → AsksForAtMost 3 (stm.alter_locked alteration)
few-alter_locked alteration = (
  2,
  refl,
  λ table. few-then 0 2 2 (stm.check_change alteration.change table) (λ _. row.Upgrade table alteration.table X (stm.change_and_lower alteration))
      (omega arith) (few-check_change alteration.change table) (λ _. (1, refl, λ alone. tt)),
)

few-alter : (alteration : Alteration) → AsksForAtMost 5 (stm.alter_after_commit alteration)
few-alter alteration = (
  4,
  refl,
  λ global. (
    3,
    refl,
    λ schema state.
        few-either 3 (has_locked state.locked) (stm.alter_locked alteration) (stm.alter_unlocked alteration) (few-alter_locked alteration) (few-alter_unlocked alteration),
  ),
)

few-alter_among_locked : (table : KeyName) (rest : Row Reply) → AsksForAtMost 5 rest → AsksForAtMost 6 (stm.alter_among_locked table rest)
few-alter_among_locked table rest is =
    few-then 0 6 6 (stm.held_lock table) (λ locked. check locked.may_write TableLockedForRead >> stm.commit_first rest) (omega arith) (few-held_lock 0 table)
    (λ locked. few-check 6 locked.may_write TableLockedForRead (stm.commit_first rest) (few-commit_first 5 rest is))

few-alter_first : (table : KeyName) (rest : Row Reply) → AsksForAtMost 5 rest → AsksForAtMost 6 (stm.alter_first table rest)
few-alter_first table rest is state =
    few-check 6 (not (is_some state.read_lock)) ConflictingReadLock _ (λ kept.
    few-either 6 (has_locked kept.locked) (stm.alter_among_locked table rest) (stm.commit_first rest) (few-alter_among_locked table rest is) (few-commit_first 5 rest is))

-- ---- LOCK TABLES

few-check_writes : (writes : Bool) → AsksForAtMost 0 (stm.check_writes writes)
few-check_writes true = few-no_read_lock
few-check_writes false = tt

few-keep : (locks : List TableLock) (tables : List KeyName) (scopes tickets : List ℕ) → AsksForAtMost 0 (stm.keep_locked locks tables scopes tickets)
few-keep locks tables scopes tickets =
    few-then 0 0 0 (for_each stm.stands tickets) _ (omega arith)
    (few-for_each stm.stands tickets (λ id. few-then 0 0 0 (stm.exists id) (λ _. nothing) (omega arith) (few-exists id) (λ _. tt))) (λ _. tt)

few-lock_named : (locks : List TableLock) (scopes : List ℕ) → AsksForAtMost (length locks) (stm.lock_named locks scopes)
few-lock_named locks scopes =
    let tables = in_key_order (tables_of locks) in
    let wishes = map (stm.table_lock locks) tables in
    let count = length-map tables (stm.table_lock locks) in
    let most = length-in_order (tables_of locks) in
    let all = length-map locks (λ (lock : TableLock). lock.table) in
    few-then (length wishes) 0 (length locks) (acquire_all wishes) (stm.keep_locked locks tables scopes) (omega (arith, count, most, all)) (few-acquire_all wishes)
    (few-keep locks tables scopes)

-- the lock of all writes is one more
length-global : (schemas : List KeyName) → length (stm.with_global schemas) ≤ suc (length schemas)
length-global [] = omega arith
length-global (schema ∷ schemas) = omega arith

length-written : (locks : List TableLock) → length (stm.written_tables locks) ≤ length locks
length-written [] = omega arith
length-written (lock ∷ locks) = by (stm.is_write lock.lock_type) (length-written locks) where
  by : (writes : Bool) → length (stm.written_tables locks) ≤ length locks
      → length (tables_of (if writes then lock ∷ filter (λ (l : TableLock). stm.is_write l.lock_type) locks else filter (λ (l : TableLock). stm.is_write l.lock_type) locks)) ≤ suc (length locks)
  by true less = omega (arith, less)
  by false less = omega (arith, less)

few-lock_tables : (locks : List TableLock) → AsksForAtMost (1 + length locks + length locks) (stm.lock_tables_after_commit locks)
few-lock_tables locks =
    let written = stm.written_tables locks in
    let schemas = in_key_order (map stm.schema_of written) in
    let wishes = map stm.ddl_lock (stm.scopes_around written) in
    let n = length locks in
    let count = length-map (stm.scopes_around written) stm.ddl_lock in
    let global = length-global schemas in
    let most = length-in_order (map stm.schema_of written) in
    let all = length-map written stm.schema_of in
    let few = length-written locks in
    few-then 0 (1 + n + n) (1 + n + n) stm.unlock_tables _ (omega arith) few-unlock
    (λ _. few-then (length wishes) n (1 + n + n) (acquire_all wishes) (stm.lock_named locks) (omega (arith, count, global, most, all, few)) (few-acquire_all wishes)
    (few-lock_named locks))

-- ---- the table

few-begin : AsksForAtMost 0 stm.begin_after_commit
few-begin = few-then 0 0 0 stm.unlock_tables _ (omega arith) few-unlock (λ _. tt)

few-unlock_all : AsksForAtMost 0 stm.unlock
few-unlock_all =
    few-then 0 0 0 stm.unlock_tables _ (omega arith) few-unlock
    (λ _. few-then 0 0 0 stm.give_up_read_lock (λ _. row.Give reply.Ok) (omega arith) few-give_up (λ _. tt))

few-flush : AsksForAtMost 2 stm.flush_after_commit
few-flush state = few-either 2 (is_some state.read_lock) (row.Give reply.Ok) stm.get_read_lock tt (1, refl, λ global. (0, refl, λ commit. tt))

few-given : (got : Option ℕ) → AsksForAtMost 0 (stm.given got)
few-given None = tt
few-given (Some ticket) = tt

few-give_back : (lock : KeyName) (held : Option ℕ) → AsksForAtMost 0 (stm.give_back lock held)
few-give_back lock (Some ticket) = tt
few-give_back lock None = λ got. few-given got

few-asked : (asked : Statement) → AsksForAtMost (most_locks_of asked) (stm.row_of asked)
few-asked statement.Begin = few-commit_first 0 stm.begin_after_commit few-begin
few-asked statement.Commit = few-commit_first 0 (row.Give reply.Ok) tt
few-asked statement.Rollback = few-then 0 0 0 stm.rollback (λ _. row.Give reply.Ok) (omega arith) few-rollback (λ _. tt)
few-asked (statement.Savepoint name) = few-save name
few-asked (statement.RollbackTo name) = few-rollback_to name
few-asked (statement.Select tables) = few-select tables
few-asked (statement.Write table priority) = few-write table priority
few-asked (statement.CreateTable table columns) = few-ddl_first 3 (stm.create_after_commit table columns) (few-create table columns)
few-asked (statement.CreateSchema name) = few-ddl_first 2 (stm.create_schema_after_commit name) (few-create_schema name)
few-asked (statement.DropTables tables) =
    let n = length tables in
    few-more (suc (1 + n + n)) (2 + 2 * n) (stm.row_of (statement.DropTables tables)) (omega arith)
    (few-ddl_first (1 + n + n) (stm.drop_after_commit tables) (few-drop tables))
few-asked (statement.DropSchema name) = few-ddl_first (2 + 256) (stm.drop_schema_after_commit name) (few-drop_schema name)
few-asked (statement.RenameTable from to) = few-ddl_first 5 (stm.rename_after_commit from to) (few-rename from to)
few-asked statement.UnlockTables = few-unlock_all
few-asked statement.FlushTablesWithReadLock =
    few-then 0 3 3 stm.no_locked_tables _ (omega arith) few-no_locked (λ _. few-commit_first 2 stm.flush_after_commit few-flush)
few-asked (statement.AlterTable alteration) = few-alter_first alteration.table (stm.alter_after_commit alteration) (few-alter alteration)
few-asked (statement.LockTables locks) =
    let n = length locks in
    few-more (suc (1 + n + n)) (2 + 2 * n) (stm.row_of (statement.LockTables locks)) (omega arith)
    (few-then 0 (suc (1 + n + n)) (suc (1 + n + n)) (stm.check_writes (stm.writes_any locks)) (λ _. stm.commit_first (stm.lock_tables_after_commit locks)) (omega arith)
    (few-check_writes (stm.writes_any locks)) (λ _. few-commit_first (1 + n + n) (stm.lock_tables_after_commit locks) (few-lock_tables locks)))
few-asked (statement.KillQuery target) = tt
few-asked statement.Timeout = tt
few-asked (statement.GetLock name) = (0, refl, λ id. tt)
few-asked (statement.ReleaseLock name) = λ held. few-give_back (user_lock_key name) held

-- within the limits of the language
few-named : (asked : Statement) → IsWithinLimits asked → most_locks_of asked ≤ most_locks
few-named (statement.Select tables) within = let n = within.1 in omega (arith, n)
few-named (statement.DropTables tables) within = let n = within.1 in omega (arith, n)
few-named (statement.LockTables locks) within =
    let n = within.1 in
    let same = length-map locks (λ (lock : TableLock). lock.table) in
    omega (arith, n, same)
few-named _ within = omega arith

pub few-locks : StatementsAskForFewLocks
few-locks asked = (few-asked asked, few-named asked)
