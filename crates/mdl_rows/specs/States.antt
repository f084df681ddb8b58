-- A session's state beside its tickets, after MySQL 5.7: `THD::locked_tables_list` and `Global_read_lock` of sql/sql_class.h, and
-- the Reference Manual, "START TRANSACTION, COMMIT, and ROLLBACK Statements".
use Rattle.std.specs.Prelude.{ℕ, Bool, true, false, not, List, [], ◌∷◌, ◌++◌, filter, find, is_some, Option, Some, None, if◌then◌else◌}
use Rattle.std.specs.Option.{option_map}
use lib.Pointwise.{pointwise}
use Rattle.std.specs.Prelude.{◌==◌}
use Rattle.mdl_context.specs.declared.request.Mark.{Mark}
use Rattle.mdl_rows.specs.declared.state.Locked.{Locked}
use Rattle.mdl_rows.specs.declared.state.ReadLock.{ReadLock}
use Rattle.mdl_rows.specs.declared.state.Savepoint.{Savepoint}

-- a session's state: whether a transaction is open, whether it wrote, and its savepoints in order, the locked tables and the tickets
-- of their scopes, and the tickets of the global read lock, if the session has it
pub record State : Type 0 where
  pub is_open : Bool
  pub has_written : Bool
  pub savepoints : List Savepoint
  pub locked : List Locked
  pub scopes : List ℕ
  pub read_lock : Option ReadLock

-- whether any table is locked
abbrev pub has_locked : List Locked → Bool
has_locked [] = false
has_locked (table ∷ tables) = true

-- a session that has done nothing yet
abbrev pub at_first : State
at_first = record { is_open = false; has_written = false; savepoints = []; locked = []; scopes = []; read_lock = None }

-- the state with an open transaction, and without locked tables. Whether the transaction wrote, and its savepoints, are unchanged:
-- `without_transaction` has cleared them before
abbrev pub with_open_transaction : State → State
with_open_transaction state = record state { is_open = true; locked = []; scopes = [] }

-- the state without a transaction
abbrev pub without_transaction : State → State
without_transaction state = record state { is_open = false; has_written = false; savepoints = [] }

-- the state with a transaction that wrote
abbrev pub after_write : State → State
after_write state = record state { has_written = true }

-- the state without locked tables
abbrev pub unlocked : State → State
unlocked state = record state { locked = []; scopes = [] }

-- the state with the GLOBAL lock, the first half of the global read lock
abbrev pub with_writes_locked : ℕ → State → State
with_writes_locked global state = record state { read_lock = Some (record { global = global; commit = None }) }

-- a global read lock with this ticket of the COMMIT lock
abbrev pub with_commit : ℕ → ReadLock → ReadLock
with_commit commit lock = record { global = lock.global; commit = Some commit }

-- the state with the COMMIT lock too, so that the global read lock is complete
abbrev pub with_commits_locked : ℕ → State → State
with_commits_locked commit state = record state { read_lock = option_map (with_commit commit) state.read_lock }

-- the state without the global read lock
abbrev pub without_read_lock : State → State
without_read_lock state = record state { read_lock = None }

-- the ticket of the GLOBAL lock, if the global read lock lacks the COMMIT lock
abbrev pub lone_ticket : Option ReadLock → Option ℕ
lone_ticket None = None
lone_ticket (Some lock) = if is_some lock.commit then None else Some lock.global

-- the ticket of the GLOBAL lock of a half-acquired global read lock, if there is one. No transaction is open while a session
-- acquires it
abbrev pub half_lock : State → Option ℕ
half_lock state = if state.is_open then None else lone_ticket state.read_lock

-- the state with these locked tables and these tickets of their scopes, and without a transaction
abbrev pub locking : List Locked → List ℕ → State → State
locking locked scopes state = record (without_transaction state) { locked = locked; scopes = scopes }

-- whether a savepoint has this name
abbrev pub is_savepoint_named : List ℕ → Savepoint → Bool
is_savepoint_named name savepoint = pointwise ◌==◌ savepoint.name name

-- the savepoints with a new one of this name at the end, and without an older one of the name
abbrev pub with_savepoint : List ℕ → Mark → List Savepoint → List Savepoint
with_savepoint name mark savepoints = filter (λ savepoint. not (is_savepoint_named name savepoint)) savepoints ++ record { name = name; mark = mark } ∷ []

-- the mark of the savepoint of a name, if there is one
abbrev pub savepoint_mark : List ℕ → List Savepoint → Option Mark
savepoint_mark name savepoints = option_map (λ savepoint. savepoint.mark) (find (is_savepoint_named name) savepoints)

-- the savepoints up to the one of this name, inclusive. All of them if there is none
abbrev pub up_to : List ℕ → List Savepoint → List Savepoint
up_to name [] = []
up_to name (savepoint ∷ savepoints) = savepoint ∷ (if is_savepoint_named name savepoint then [] else up_to name savepoints)
