-- The locks of rows, after MySQL 5.7: `MDL_lock` and `MDL_ticket` of sql/mdl.cc.
use Rattle.std.specs.Prelude.{ℕ, zero, suc, Bool, true, false, not, ◌&&◌, ◌||◌, nat_eq, ◌==◌, List, [], ◌∷◌, ◌++◌, map, filter, length, codes, Option, None, Some, Result}
use Rattle.std.specs.List.{list_any}
use Rattle.mdl_key.specs.declared.mode.Duration.{Duration}
use Rattle.mdl_key.specs.declared.mode.Duration.TheVariants.{Statement, Transaction, Explicit}
use Rattle.mdl_key.specs.declared.mode.Mode.TheVariants.{SU, SNW, SNRW, X}
use Rattle.mdl_lines.specs.Words.{same_text}
use Rattle.mdl_view.specs.declared.lock_mode.LockMode.{LockMode}
use Rattle.mdl_view.specs.declared.lock_mode.LockMode.TheVariants.{Mdl}
use Rattle.mdl_view.specs.declared.ticket.Ticket.{Ticket}
use Rattle.mdl_view.specs.Locks.{LockView}
use Rattle.mdl_lock_rows.specs.declared.object_type.ObjectType.{ObjectType}
use Rattle.mdl_lock_rows.specs.declared.object_type.ObjectType.TheVariants.{Table, Function, Procedure, Trigger, Event, PackageBody}
use Rattle.mdl_lock_rows.specs.declared.row.Row.{Row}
use Rattle.mdl_lock_rows.specs.declared.row.Status.{Status}
use Rattle.mdl_lock_rows.specs.declared.row_class.LeftOut.{LeftOut}
use Rattle.mdl_lock_rows.specs.declared.row_error.LockRowsError.{LockRowsError}
use Rattle.mdl_lock_rows.specs.Keys.{KeyNames, kind_of_type, same_key}
use Rattle.mdl_lock_rows.specs.Numbering.{keys_of, left_out_of, number_of, owners_of, thread_of_row, threads_of}
use Rattle.mdl_lock_rows.specs.Owners.{OwnerView}
use Rattle.mdl_lock_rows.specs.Reading.{lines_read, made_of, others_in, rows_in}
use Rattle.mdl_lock_rows.specs.ServerNames.{is_granted, is_settled, is_waiting}

-- ---- tickets that go with a statement

-- whether an object type is that of a table or a stored program
abbrev pub is_definition : ObjectType → Bool
is_definition Table = true
is_definition Function = true
is_definition Procedure = true
is_definition Trigger = true
is_definition Event = true
is_definition PackageBody = true
is_definition _ = false

-- whether only statements that change a definition, and LOCK TABLES, ask for a mode
abbrev pub is_of_changes : LockMode → Bool
is_of_changes (Mdl SU) = true
is_of_changes (Mdl SNW) = true
is_of_changes (Mdl SNRW) = true
is_of_changes (Mdl X) = true
is_of_changes _ = false

-- whether a lock is kept until the transaction ends
abbrev pub is_of_transaction : Option Duration → Bool
is_of_transaction (Some Transaction) = true
is_of_transaction _ = false

-- whether a row shows that its thread changes a definition
abbrev pub shows_change : Row → Bool
shows_change row = is_of_transaction row.duration && is_definition row.key.object_type && is_of_changes row.mode

-- the threads that change a definition. Such a statement commits before it begins: sql/sql_parse.cc, `CF_IMPLICIT_COMMIT_BEGIN`. So what such a
-- thread keeps until its transaction ends is of the statement
abbrev pub changers_of : List Row → List ℕ
changers_of rows = threads_of (filter shows_change rows)

-- whether a thread may be between two statements: its rows say so, or don't say what it does
abbrev pub may_be_idle : OwnerView → Bool
may_be_idle owner = length owner.command == 0 || same_text owner.command (codes "Sleep")

-- whether a lock that is kept so long goes if the statement of its thread is killed
abbrev pub ends_with_statement : List ℕ → ℕ → Option Duration → Bool
ends_with_statement changers thread None = false
ends_with_statement changers thread (Some Statement) = true
ends_with_statement changers thread (Some Transaction) = list_any (nat_eq thread) changers
ends_with_statement changers thread (Some Explicit) = false

-- whether a row's ticket goes if the statement of its thread is killed: a wait does, and what the statement itself has acquired
abbrev pub is_of_statement : List ℕ → Row → Bool
is_of_statement changers row = not (is_granted row.status) || (not (may_be_idle row.owner) && ends_with_statement changers (thread_of_row row) row.duration)

-- ---- locks

-- the ticket of a row: its session is the number of the thread, and its number that of the line
abbrev pub ticket_of : List ℕ → List ℕ → Row → Ticket
ticket_of threads changers row = record {
  number = row.line;
  session = number_of threads (thread_of_row row);
  mode = row.mode;
  of_statement = is_of_statement changers row;
}

-- whether a row is of a key, and its status passes a test
abbrev pub is_at : KeyNames → (Status → Bool) → Row → Bool
is_at key test row = same_key row.key key && test row.status

-- the tickets of the rows of a key whose status passes a test, in order
abbrev pub tickets_at : List ℕ → List ℕ → KeyNames → (Status → Bool) → List Row → List Ticket
tickets_at threads changers key test rows = map (ticket_of threads changers) (filter (is_at key test) rows)

-- the lock of a key
abbrev pub lock_at : List ℕ → List ℕ → List Row → KeyNames → LockView
lock_at threads changers rows key = record {
  kind = kind_of_type key.object_type;
  granted = tickets_at threads changers key is_granted rows;
  waiting = tickets_at threads changers key is_waiting rows;
  settled = tickets_at threads changers key is_settled rows;
}

-- the locks of these keys
abbrev pub locks_among : List ℕ → List ℕ → List Row → List KeyNames → List LockView
locks_among threads changers rows keys = map (lock_at threads changers rows) keys

-- the locks of rows
abbrev pub locks_of : List Row → List LockView
locks_of rows = locks_among (threads_of rows) (changers_of rows) rows (keys_of rows)

-- ---- the contents of a text

abbrev pub keys_read : List ℕ → Result (List KeyNames) LockRowsError
keys_read text = made_of (λ lines. keys_of (rows_in lines)) (lines_read text)

abbrev pub locks_read : List ℕ → Result (List LockView) LockRowsError
locks_read text = made_of (λ lines. locks_of (rows_in lines)) (lines_read text)

abbrev pub owners_read : List ℕ → Result (List OwnerView) LockRowsError
owners_read text = made_of (λ lines. owners_of (rows_in lines)) (lines_read text)

abbrev pub left_out_read : List ℕ → Result (List LeftOut) LockRowsError
left_out_read text = made_of (λ lines. left_out_of (others_in lines)) (lines_read text)

-- ---- representations

-- a lock with the ticket of one more row, whose key is that of the lock
abbrev pub with_ticket : List ℕ → List ℕ → Row → LockView → LockView
with_ticket threads changers row lock = record lock {
  granted = lock.granted ++ map (ticket_of threads changers) (filter (λ row. is_granted row.status) (row ∷ []));
  waiting = lock.waiting ++ map (ticket_of threads changers) (filter (λ row. is_waiting row.status) (row ∷ []));
  settled = lock.settled ++ map (ticket_of threads changers) (filter (λ row. is_settled row.status) (row ∷ []));
}

-- a list with the element at an index changed, if there is an index
abbrev pub changed_at : {A : Type 0} → Option ℕ → (A → A) → List A → List A
changed_at None make list = list
changed_at (Some place) make [] = []
changed_at (Some zero) make (one ∷ list) = make one ∷ list
changed_at (Some (suc place)) make (one ∷ list) = one ∷ changed_at (Some place) make list
