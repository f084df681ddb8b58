-- The tables that list locks and waits, after MySQL 5.7: `metadata_locks` of the Performance Schema, and
-- `schema_table_lock_waits` of the sys schema. Which columns they have, and their wording, is this project's own choice.
use Rattle.std.specs.Prelude.{ℕ, suc, List, [], ◌∷◌, ◌++◌, codes, flat_map}
use Rattle.mdl_view.specs.declared.blocking.Blocking.{Blocking}
use Rattle.mdl_view.specs.declared.blocking.Reason.{Reason}
use Rattle.mdl_view.specs.declared.blocking.Reason.TheVariants.{Holds, WaitsBefore}
use Rattle.mdl_view.specs.declared.lock_mode.LockMode.{LockMode}
use Rattle.mdl_view.specs.declared.ticket.Ticket.{Ticket}
use Rattle.mdl_view.specs.Locks.{LockView}
use Rattle.mdl_view.specs.Modes.{lock_mode_name}
use Rattle.mdl_view_text.specs.Names.{NamesView, lock_name, session_text}

-- the text of a column that isn't the last one of its row: a tab follows it
abbrev pub column : List ℕ → List ℕ
column text = text ++ 9 ∷ []

-- a ticket's row: its lock, its session, its mode, and its status
abbrev pub ticket_row : NamesView → ℕ → List ℕ → Ticket → List ℕ
ticket_row names place status ticket =
    column (lock_name names place) ++ column (session_text names ticket.session) ++ column (lock_mode_name ticket.mode) ++ status ++ 10 ∷ []

-- a lock's rows: the tickets that hold it, those that wait for it, and those whose wait is over without a grant
abbrev pub rows_of_lock : NamesView → ℕ → LockView → List ℕ
rows_of_lock names place lock =
    flat_map (ticket_row names place (codes "GRANTED")) lock.granted ++ flat_map (ticket_row names place (codes "PENDING")) lock.waiting
    ++ flat_map (ticket_row names place (codes "SETTLED")) lock.settled

-- the rows of locks, the first of which has this index
abbrev pub rows_from : NamesView → ℕ → List LockView → List ℕ
rows_from names place [] = []
rows_from names place (lock ∷ locks) = rows_of_lock names place lock ++ rows_from names (suc place) locks

abbrev pub locks_head : List ℕ
locks_head = column (codes "LOCK") ++ column (codes "SESSION") ++ column (codes "MODE") ++ codes "STATUS" ++ 10 ∷ []

-- all locks
abbrev pub locks_text : NamesView → List LockView → List ℕ
locks_text names locks = locks_head ++ rows_from names 0 locks

-- why a ticket blocks another
abbrev pub reason_text : Reason → LockMode → List ℕ
reason_text Holds mode = codes "holds " ++ lock_mode_name mode
reason_text WaitsBefore mode = codes "waits before it for " ++ lock_mode_name mode

-- the row of a waiter and of a session that blocks it
abbrev pub waiter_columns : NamesView → ℕ → Ticket → List ℕ
waiter_columns names place waiter =
    column (lock_name names place) ++ column (session_text names waiter.session) ++ column (lock_mode_name waiter.mode)

abbrev pub wait_row : NamesView → Blocking → List ℕ
wait_row names blocking =
    waiter_columns names blocking.lock blocking.waiter ++ column (session_text names blocking.other.session)
    ++ reason_text blocking.reason blocking.other.mode ++ 10 ∷ []

abbrev pub waits_head : List ℕ
waits_head =
    column (codes "LOCK") ++ column (codes "WAITING") ++ column (codes "FOR") ++ column (codes "BLOCKING") ++ codes "REASON" ++ 10 ∷ []

-- all waits that some ticket blocks
abbrev pub waits_text : NamesView → List Blocking → List ℕ
waits_text names blockings = waits_head ++ flat_map (wait_row names) blockings
