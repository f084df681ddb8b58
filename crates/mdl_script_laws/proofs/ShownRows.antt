-- Which statements show what they have seen, and leave a transaction as it is.
use Rattle.std.proofs.Common.{◌≡◌, ℕ, Bool, true, false, not, List, [], ◌∷◌, ◌++◌, Option, Some, None, Contains, is_some, refl, sym, subst, inl, inr, eq-eqb, ◌∙◌}
use Rattle.std.specs.Prelude.{◌==◌, find, if◌then◌else◌}
use Rattle.std.proofs.lemmas.Bool.{false≢true, true≢false}
use Rattle.std.proofs.lemmas.List.Elements.{Contains-append_left, Contains-append_right, Contains-append_cases}
use Rattle.mdl_key.specs.declared.mode.Duration.TheVariants as for
use Rattle.mdl_key.specs.declared.mode.Mode.TheVariants.{IX}
use Rattle.mdl_key.specs.Keys.{KeyName, global_key, key_eq}
use Rattle.mdl_defs.specs.declared.versioned_definition.VersionedDefinition.{VersionedDefinition}
use Rattle.mdl_system.proofs.MemberLemmas.{Contains-map}
use Rattle.mdl_system.proofs.OrderLemmas.{Contains-here}
use Rattle.mdl_syntax.specs.declared.statement.Priority.{Priority}
use Rattle.mdl_syntax.specs.declared.statement.Statement.{Statement}
use Rattle.mdl_syntax.specs.declared.statement.Statement.TheVariants as statement
use Rattle.mdl_context.specs.declared.request.Mark.{Mark}
use Rattle.mdl_rows.specs.declared.error_number.ErrorNumber.TheVariants.{NoSuchTable, TableLockedForRead, ActiveLocks, ConflictingReadLock}
use Rattle.mdl_rows.specs.declared.state.Locked.{Locked}
use Rattle.mdl_rows.specs.declared.reply.Reply.{Reply}
use Rattle.mdl_rows.specs.declared.reply.Reply.TheVariants as reply
use Rattle.mdl_rows.specs.declared.reply.TableShown.{TableShown}
use Rattle.mdl_rows.specs.Rows.{Row, nothing, set, check, ◌>>=◌, ◌>>◌}
use Rattle.mdl_rows.specs.Rows as row
use Rattle.mdl_rows.specs.States.{State, after_write, has_locked, savepoint_mark}
use Rattle.mdl_rows.specs.Statements as does
use Rattle.mdl_script_laws.specs.Shown.{leaves_transaction}
use Rattle.mdl_script_laws.proofs.ListLemmas.{filter-among, only-one}
use Rattle.mdl_script_laws.proofs.RowRules.{Any, KeepsTo, keeps-begin, keeps-check, keeps-commit, keeps-create, keeps-create_schema, keeps-drop, keeps-rename, keeps-flush, keeps-rollback, keeps-then, keeps-unlock_all, keeps-alter, keeps-either, IsUnlocked, keeps-lock_tables, keeps-drop_schema}
use Rattle.mdl_script_laws.proofs.ShownPlays.{begun}
use Rattle.mdl_script_laws.proofs.ShownPoints.{shown_as}
use Rattle.mdl_script_laws.proofs.ShownStages.{IsFair, Tells, seen_under, shown_under}

-- RELEASE_LOCK
abbrev pub IsReleaseLock : Statement → Type 0
IsReleaseLock (statement.ReleaseLock name) = Unit {0}
IsReleaseLock _ = ⊥

-- ---- SELECT

module _ (old : TableShown → Type 0) (live : Bool) where
  seen-first : (id : ℕ) (table : KeyName) (standing : VersionedDefinition) (locks : List (ℕ × KeyName))
      → does.is_defined standing ≡ true → Contains (seen_under id standing ((id, table) ∷ locks)) (shown_as table standing)
  seen-first id table standing locks is =
      subst (λ there. Contains (if there then shown_under id standing ((id, table) ∷ locks) else []) (shown_as table standing)) (sym is)
      (Contains-map (λ (lock : ℕ × KeyName). shown_as lock.1 standing) _ (id, table)
      (filter-among (λ (lock : ℕ × KeyName). lock.0 == id) ((id, table) ∷ locks) (id, table) (eq-eqb id id refl) (Contains-here (id, table) locks)))

  fair-show : (locks : List (ℕ × KeyName)) (seen shown : List TableShown) (tables : List KeyName) → ((x : TableShown) → Contains shown x → Contains seen x)
      → IsFair old live locks seen (does.show_all does.lock_to_read shown tables)
  fair-show locks seen shown [] all = λ lives. all
  fair-show locks seen shown (table ∷ tables) all = λ id standing.
      by id standing (does.is_defined standing) refl (λ is.
      fair-show ((id, table) ∷ locks) (seen_under id standing ((id, table) ∷ locks) ++ seen) (shown ++ shown_as table standing ∷ []) tables (more id standing is))
    where
      more : (id : ℕ) (standing : VersionedDefinition) → does.is_defined standing ≡ true → (x : TableShown) → Contains (shown ++ shown_as table standing ∷ []) x
          → Contains (seen_under id standing ((id, table) ∷ locks) ++ seen) x
      more id standing is x among = elim (Contains-append_cases shown (shown_as table standing ∷ []) x among) [
        | inl before ↦ Contains-append_right (seen_under id standing ((id, table) ∷ locks)) seen x (all x before)
        | inr late ↦ Contains-append_left (seen_under id standing ((id, table) ∷ locks)) seen x
            (subst (λ y. Contains (seen_under id standing ((id, table) ∷ locks)) y) (sym (only-one (shown_as table standing) x late))
            (seen-first id table standing locks is))
      ]

      by : (id : ℕ) (standing : VersionedDefinition) (there : Bool) → does.is_defined standing ≡ there
          → (does.is_defined standing ≡ true → IsFair old live ((id, table) ∷ locks) (seen_under id standing ((id, table) ∷ locks) ++ seen)
          (does.show_all does.lock_to_read (shown ++ shown_as table standing ∷ []) tables))
          → IsFair old live ((id, table) ∷ locks) (seen_under id standing ((id, table) ∷ locks) ++ seen)
          (((check there NoSuchTable >> row.Give standing) >>= (λ now. row.room >> row.Give (shown ++ shown_as table now ∷ [])))
          >>= (λ more. does.show_all does.lock_to_read more tables))
      by id standing true is rest = rest is
      by id standing false is rest = tt

  -- without a transaction it may show any table, such as one that is locked already
  fair-held : (live ≡ true → ⊥) → (locks : List (ℕ × KeyName)) (seen shown : List TableShown) (tables : List KeyName)
      → IsFair old live locks seen (does.show_all does.lock_held shown tables)
  fair-held none locks seen shown [] = λ lives. absurd (none lives)
  fair-held none locks seen shown (table ∷ tables) = λ state unlocked opens.
      by (find (λ (locked : Locked). key_eq table locked.key) state.locked) (λ more_seen more. fair-held none locks more_seen more tables)
    where
      Rest : Type 0
      Rest = (more_seen more : List TableShown) → IsFair old live locks more_seen (does.show_all does.lock_held more tables)

      at : (ticket : ℕ) (standing : VersionedDefinition) (there : Bool) → Rest
          → IsFair old live locks (seen_under ticket standing locks ++ seen)
          (((check there NoSuchTable >> row.Give standing) >>= (λ now. row.room >> row.Give (shown ++ shown_as table now ∷ [])))
          >>= (λ more. does.show_all does.lock_held more tables))
      at ticket standing true rest = rest (seen_under ticket standing locks ++ seen) (shown ++ shown_as table standing ∷ [])
      at ticket standing false rest = tt

      by : (found : Option Locked) → Rest
          → IsFair old live locks seen ((does.among_locked found >>= (λ (locked : Locked). row.Give locked.ticket))
          >>= (λ ticket. does.show shown table ticket >>= (λ more. does.show_all does.lock_held more tables)))
      by None rest = tt
      by (Some locked) rest = λ standing. at locked.ticket standing (does.is_defined standing) rest

  fair-select : (tables : List KeyName) (state : State) → IsUnlocked state → (live ≡ true → state.is_open ≡ true)
      → IsFair old live [] [] (begun (does.select tables) state)
  fair-select tables state unlocked opens = by (has_locked state.locked) refl
    where
      by : (locked : Bool) → has_locked state.locked ≡ locked
          → IsFair old live [] [] (does.show_all (if locked then does.lock_held else does.lock_to_read) [] tables)
      by true is = fair-held (λ lives. (let free = unlocked (opens lives) in true≢false (sym is ∙ free))) [] [] [] tables
      by false is = fair-show [] [] [] tables (λ x among. among)

  -- ---- INSERT, UPDATE, DELETE

  fair-wrote : (locks : List (ℕ × KeyName)) (seen : List TableShown) → IsFair old live locks seen does.wrote
  fair-wrote locks seen = λ state unlocked opens. by state.is_open opens
    where
      by : (opened : Bool) → ((x : TableShown) → old x → live ≡ true → opened ≡ true)
          → IsFair old live locks seen ((if opened then set after_write else does.commit_writes) >>= (λ _. row.Give reply.Ok))
      by true opens = ((λ s u. u), (λ s was e. was e), (λ x is lives s e. e), λ lives x tell. absurd tell)
      by false opens = λ id.
          let closed : (x : TableShown) → old x → live ≡ true → ⊥ = λ x is lives. (let e = opens x is lives in cc) in
          (closed, ((λ s u e. cc), (λ s was e. cc), (λ x is lives s e. absurd (closed x is lives)), (closed, λ lives x tell. absurd tell)))

  fair-under : (locks : List (ℕ × KeyName)) (seen : List TableShown) (id : ℕ) → IsFair old live locks seen (does.write_under id)
  fair-under locks seen id = λ standing. by standing (does.is_defined standing)
    where
      by : (standing : VersionedDefinition) (there : Bool)
          → IsFair old live locks (seen_under id standing locks ++ seen) ((check there NoSuchTable >> row.Give standing) >>= (λ _. does.wrote))
      by standing true = fair-wrote locks (seen_under id standing locks ++ seen)
      by standing false = tt

  fair-unlocked : (table : KeyName) (priority : Priority) → IsFair old live [] [] (does.write_unlocked table priority)
  fair-unlocked table priority = λ now still stays. by (not (is_some now.read_lock))
    where
      by : (free : Bool) → IsFair old live [] [] (check free ConflictingReadLock >>=
          (λ _. (row.acquire global_key IX for.Statement >>= (λ _. does.lock_and_write table priority))))
      by true = λ global id. fair-under _ [] id
      by false = tt

  -- a table that is locked already is written as it is
  fair-locked : (table : KeyName) → IsFair old live [] [] (does.write_locked table)
  fair-locked table = λ state unlocked opens. by (find (λ (locked : Locked). key_eq table locked.key) state.locked)
    where
      at : (may : Bool) → IsFair old live [] [] (check may TableLockedForRead >> does.wrote)
      at true = fair-wrote [] []
      at false = tt

      by : (found : Option Locked) → IsFair old live [] [] (does.among_locked found >>= (λ (locked : Locked). check locked.may_write TableLockedForRead >> does.wrote))
      by None = tt
      by (Some locked) = at locked.may_write

  fair-write : (table : KeyName) (priority : Priority) (state : State) → IsFair old live [] [] (begun (does.write table priority) state)
  fair-write table priority state = by (has_locked state.locked)
    where
      by : (locked : Bool) → IsFair old live [] [] (if locked then does.write_locked table else does.write_unlocked table priority)
      by true = fair-locked table
      by false = fair-unlocked table priority

  -- ---- SAVEPOINT

  fair-save : (name : List ℕ) (state : State) → IsFair old live [] [] (begun (does.save name) state)
  fair-save name state = by state.is_open
    where
      by : (opened : Bool) → IsFair old live [] [] ((if opened then does.save_here name else nothing) >>= (λ _. row.Give reply.Ok))
      by true = λ mark. ((λ s u. u), (λ s was e. was e), (λ x is lives s e. e), λ lives x tell. absurd tell)
      by false = λ lives x tell. absurd tell

  -- whatever is to stay, such a statement leaves it, in a session that has locked no tables while its transaction is open. Which ticket a
  -- RELEASE_LOCK releases isn't said here
  pub fair-leaving : (s : Statement) (state : State) → leaves_transaction s ≡ true → (IsReleaseLock s → ⊥) → IsUnlocked state
      → (live ≡ true → state.is_open ≡ true) → IsFair old live [] [] (begun (does.row_of s) state)
  fair-leaving (statement.Savepoint name) state leaves other unlocked opens = fair-save name state
  fair-leaving (statement.Select tables) state leaves other unlocked opens = fair-select tables state unlocked opens
  fair-leaving (statement.Write table priority) state leaves other unlocked opens = fair-write table priority state
  fair-leaving (statement.KillQuery target) state leaves other unlocked opens = λ lives x tell. absurd tell
  fair-leaving statement.Timeout state leaves other unlocked opens = λ lives x tell. absurd tell
  fair-leaving (statement.GetLock name) state leaves other unlocked opens = λ id lives x tell. absurd tell
  fair-leaving (statement.ReleaseLock name) state leaves other unlocked opens = absurd (other tt)
  fair-leaving _ state leaves other unlocked opens = absurd (false≢true leaves)

-- ---- all other statements

-- a reply that shows no table
abbrev ShowsNone : Reply → Type 0
ShowsNone reply = (x : TableShown) → Tells reply x → ⊥

-- where nothing has to stay, a row that shows no table may ask for anything
fair-tidy : (old : TableShown → Type 0) (locks : List (ℕ × KeyName)) (seen : List TableShown) (asked : Row Reply) → ((x : TableShown) → old x → ⊥)
    → KeepsTo Any ShowsNone asked → IsFair old true locks seen asked
fair-tidy old locks seen (row.Give reply) empty tidy = λ lives x tell. absurd (tidy x tell)
fair-tidy old locks seen (row.Fail number) empty tidy = tt
fair-tidy old locks seen (row.Room rest) empty tidy = fair-tidy old locks seen rest empty tidy
fair-tidy old locks seen (row.Look rest) empty tidy = λ state unlocked opens. fair-tidy old locks seen (rest state) empty (tidy state)
fair-tidy old locks seen (row.Set change rest) empty tidy =
    (tidy.0, (λ state was e. refl), (λ x is lives state e. absurd (empty x is)), fair-tidy old locks seen rest empty tidy.1)
fair-tidy old locks seen (row.Here rest) empty tidy = λ mark. fair-tidy old locks seen (rest mark) empty (tidy mark)
fair-tidy old locks seen (row.Acquire wish rest) empty tidy = λ id. fair-tidy old _ seen (rest id) empty (tidy id)
fair-tidy old locks seen (row.Try_acquire wish rest) empty tidy = λ got. fair-tidy old locks seen (rest got) empty (tidy got)
fair-tidy old locks seen (row.Last key rest) empty tidy = λ held. fair-tidy old locks seen (rest held) empty (tidy held)
fair-tidy old locks seen (row.Upgrade id key mode rest) empty tidy = ((λ x is lives. empty x is), λ new. fair-tidy old [] [] (rest new) empty (tidy new))
fair-tidy old locks seen (row.Downgrade id mode rest) empty tidy = ((λ x is lives. empty x is), fair-tidy old [] [] rest empty tidy)
fair-tidy old locks seen (row.Give_up which rest) empty tidy = ((λ x is lives. empty x is), fair-tidy old [] [] rest empty tidy)
fair-tidy old locks seen (row.Release id rest) empty tidy = ((λ x is lives. empty x is), fair-tidy old [] [] rest empty tidy)
fair-tidy old locks seen (row.Keep rest) empty tidy = ((λ x is lives. empty x is), fair-tidy old [] [] rest empty tidy)
fair-tidy old locks seen (row.Read id rest) empty tidy = λ standing. fair-tidy old locks _ (rest standing) empty (tidy standing)
fair-tidy old locks seen (row.Redefine id change rest) empty tidy = ((λ x is lives. empty x is), fair-tidy old [] [] rest empty tidy)
fair-tidy old locks seen (row.Tables_of schema rest) empty tidy = λ tables. fair-tidy old locks seen (rest tables) empty (tidy tables)
fair-tidy old locks seen (row.Key_of place rest) empty tidy = λ key. fair-tidy old locks seen (rest key) empty (tidy key)
fair-tidy old locks seen (row.Kill target rest) empty tidy = fair-tidy old locks seen rest empty tidy

tidy-commit : KeepsTo Any Any does.commit
tidy-commit = keeps-commit Any (λ _ _. tt)

tidy-ddl : KeepsTo Any Any does.ddl
tidy-ddl =
    keeps-then Any Any does.no_read_lock (does.no_locked_tables >> does.commit)
    (λ state. keeps-check Any (not (is_some state.read_lock)) ConflictingReadLock tt)
    (keeps-then Any Any does.no_locked_tables does.commit (λ state. keeps-check Any (not (has_locked state.locked)) ActiveLocks tt) tidy-commit)

tidy-writes : (writes : Bool) → KeepsTo Any Any (does.check_writes writes)
tidy-writes true = λ state. keeps-check Any (not (is_some state.read_lock)) ConflictingReadLock tt
tidy-writes false = tt

tidy-back : (name : List ℕ) (mark : Option Mark) → KeepsTo Any ShowsNone (does.go_back name mark)
tidy-back name None = tt
tidy-back name (Some mark) = ((λ s u. u), λ x tell. absurd tell)

tidy-among : (found : Option Locked) (rest : Row Reply) → KeepsTo Any ShowsNone (does.commit_first rest)
    → KeepsTo Any ShowsNone (does.among_locked found >>= (λ (locked : Locked). check locked.may_write TableLockedForRead >> does.commit_first rest))
tidy-among None rest so = tt
tidy-among (Some locked) rest so =
    keeps-then Any ShowsNone (check locked.may_write TableLockedForRead) (does.commit_first rest) (keeps-check Any locked.may_write TableLockedForRead tt) so

-- where nothing has to stay, every other statement may be asked for
pub fair-any : (old : TableShown → Type 0) (s : Statement) → leaves_transaction s ≡ false → ((x : TableShown) → old x → ⊥) → IsFair old true [] [] (does.row_of s)
fair-any old statement.Begin other none =
    fair-tidy old [] [] (does.row_of statement.Begin) none
    (keeps-then Any ShowsNone does.commit does.begin_after_commit tidy-commit (keeps-begin Any (λ _ _. tt) ShowsNone (λ x tell. absurd tell)))
fair-any old statement.Commit other none =
    fair-tidy old [] [] (does.row_of statement.Commit) none (keeps-then Any ShowsNone does.commit (row.Give reply.Ok) tidy-commit (λ x tell. absurd tell))
fair-any old statement.Rollback other none =
    fair-tidy old [] [] (does.row_of statement.Rollback) none (keeps-then Any ShowsNone does.rollback (row.Give reply.Ok)
    (keeps-rollback Any (λ _ _. tt)) (λ x tell. absurd tell))
fair-any old (statement.RollbackTo name) other none = fair-tidy old [] [] (does.row_of (statement.RollbackTo name)) none
    (λ state. tidy-back name (savepoint_mark name state.savepoints))
fair-any old (statement.CreateTable table columns) other none =
    fair-tidy old [] [] (does.row_of (statement.CreateTable table columns)) none
    (keeps-then Any ShowsNone does.ddl (does.create_after_commit table columns) tidy-ddl
    (keeps-create Any (λ _ _. tt) ShowsNone (λ x tell. absurd tell) table columns))
fair-any old (statement.CreateSchema name) other none =
    fair-tidy old [] [] (does.row_of (statement.CreateSchema name)) none
    (keeps-then Any ShowsNone does.ddl (does.create_schema_after_commit name) tidy-ddl
    (keeps-create_schema Any (λ _ _. tt) ShowsNone (λ x tell. absurd tell) name))
fair-any old (statement.DropTables tables) other none =
    fair-tidy old [] [] (does.row_of (statement.DropTables tables)) none
    (keeps-then Any ShowsNone does.ddl (does.drop_after_commit tables) tidy-ddl (keeps-drop Any (λ _ _. tt) ShowsNone (λ x tell. absurd tell) tables))
fair-any old (statement.DropSchema name) other none =
    fair-tidy old [] [] (does.row_of (statement.DropSchema name)) none
    (keeps-then Any ShowsNone does.ddl (does.drop_schema_after_commit name) tidy-ddl
    (keeps-drop_schema Any (λ _ _. tt) ShowsNone (λ x tell. absurd tell) name))
fair-any old (statement.RenameTable from to) other none =
    fair-tidy old [] [] (does.row_of (statement.RenameTable from to)) none
    (keeps-then Any ShowsNone does.ddl (does.rename_after_commit from to) tidy-ddl (keeps-rename Any (λ _ _. tt) ShowsNone (λ x tell. absurd tell) from to))
fair-any old statement.UnlockTables other none =
    fair-tidy old [] [] (does.row_of statement.UnlockTables) none (keeps-unlock_all Any (λ _ _. tt) ShowsNone (λ x tell. absurd tell))
fair-any old statement.FlushTablesWithReadLock other none =
    fair-tidy old [] [] (does.row_of statement.FlushTablesWithReadLock) none
    (keeps-then Any ShowsNone does.no_locked_tables (does.commit_first does.flush_after_commit)
    (λ state. keeps-check Any (not (has_locked state.locked)) ActiveLocks tt)
    (keeps-then Any ShowsNone does.commit does.flush_after_commit tidy-commit (keeps-flush Any (λ _ _. tt) ShowsNone (λ x tell. absurd tell))))
fair-any old (statement.AlterTable alteration) other none =
    let rest = does.alter_after_commit alteration in
    let altering = keeps-alter Any (λ _ _. tt) ShowsNone (λ x tell. absurd tell) alteration in
    let committing = keeps-then Any ShowsNone does.commit rest tidy-commit altering in
    let looks : Row Reply = row.Look (λ state. if has_locked state.locked then does.alter_among_locked alteration.table rest else does.commit_first rest) in
    fair-tidy old [] [] (does.row_of (statement.AlterTable alteration)) none
    (keeps-then Any ShowsNone does.no_read_lock looks (λ state. keeps-check Any (not (is_some state.read_lock)) ConflictingReadLock tt)
    (λ state. keeps-either Any ShowsNone (has_locked state.locked) (does.alter_among_locked alteration.table rest) (does.commit_first rest)
    (λ kept. tidy-among (find (λ (locked : Locked). key_eq alteration.table locked.key) kept.locked) rest committing) committing))
fair-any old (statement.LockTables locks) other none =
    fair-tidy old [] [] (does.row_of (statement.LockTables locks)) none
    (keeps-then Any ShowsNone (does.check_writes (does.writes_any locks)) (does.commit_first (does.lock_tables_after_commit locks))
    (tidy-writes (does.writes_any locks))
    (keeps-then Any ShowsNone does.commit (does.lock_tables_after_commit locks) tidy-commit
    (keeps-lock_tables Any (λ _ _. tt) ShowsNone (λ x tell. absurd tell) locks)))
fair-any old _ other none = absurd (false≢true (sym other))
