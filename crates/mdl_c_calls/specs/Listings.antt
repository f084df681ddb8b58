-- What C can read of the locks: which waits are settled, what a session holds, which keys there are, and who holds and waits for each lock. That is
-- what the table metadata_locks of MySQL 5.7's Performance Schema shows. The form is this project's own. Reading changes nothing.
use Rattle.std.specs.Prelude.{◌≡◌, ℕ, zero, suc, ◌-◌, Bool, false, not, ◌&&◌, ◌==◌, nat_le, List, [], ◌++◌, filter, length, map, slice_get, slice_set, Option, Some, None, MatchOption, if◌then◌else◌}
use Rattle.std.specs.List.{range_with_len}
use Rattle.std.specs.Option.{option_and_then, option_map, option_map_or, option_or, unwrap_or}
use Rattle.mdl_key.specs.declared.mode.Duration.{Duration}
use Rattle.mdl_key.specs.Keys.{KeyName, key_eq}
use Rattle.mdl_book.specs.declared.book_view.BookView.{BookView}
use Rattle.mdl_book.specs.declared.ticket.Ticket.{Ticket}
use Rattle.mdl_calls.specs.declared.answers.Settled.{Settled}
use Rattle.mdl_context.specs.declared.kept.Kept.{Kept}
use Rattle.mdl_context.specs.declared.kept.Wanted.{Wanted}
use Rattle.mdl_context.specs.Contexts.{ContextView, duration_rank, ticket_kept}
use Rattle.mdl_core.specs.declared.pending.Pending.{Pending}
use Rattle.mdl_core.specs.CoreCalls.{has_settled}
use Rattle.mdl_core.specs.Words.{Core, book_at, has_key, seat_at}
use Rattle.mdl_c_parts.specs.declared.rows.LockRow.{LockRow}
use Rattle.mdl_c_parts.specs.Codes.{closed, no_place}
use Rattle.mdl_c_parts.specs.Rows.{granted_status, lock_row, room_written, unkept_duration, waiting_status}
use Rattle.mdl_c_calls.specs.Exports.{Tells}
use Rattle.mdl_c_calls.specs.Managers.{Managed, has_member, seat_of, session_count_of}
use Rattle.mdl_c_calls.specs.declared.seat.Seat.{Seat}
use Rattle.mdl_c_calls.specs.declared.seat.Seat.TheVariants as seat

-- ---- what is shown

-- a call shows the manager and doesn't change it. If there is none, it returns the code for that and writes nothing
abbrev pub ShowsSpace : Option Managed → ℕ → Option Managed → Type 0 → (Managed → Type 0) → Type 0
ShowsSpace None code after Kept Shown = Tells closed None code after × Kept
ShowsSpace (Some manager) code after Kept Shown = (after ≡ Some manager) × Shown manager

-- the book of a place, if the place has a key
abbrev pub keyed_book : ℕ → Core → Option BookView
keyed_book place space = if has_key place space then Some (book_at place space) else None

-- whether a key is at a place
abbrev pub is_place_of : KeyName → ℕ → Core → Bool
is_place_of key place space = option_map_or (λ (book : BookView). key_eq key book.key) (keyed_book place space) false

-- a call shows the lock of a place. If the place has no key, it returns the code for that and writes nothing
abbrev pub ShowsLock : ℕ → Option Managed → ℕ → Option Managed → Type 0 → (Managed → BookView → Type 0) → Type 0
ShowsLock place before code after Kept Shown =
    ShowsSpace before code after Kept (λ manager.
    MatchOption (keyed_book place manager.space) ((code ≡ no_place) × Kept) (λ book. (code ≡ 0) × Shown manager book))

-- ---- settled waits

-- whether a session of the manager has a wait that is settled, and not ended
abbrev pub has_settled_wait : Managed → ℕ → Bool
has_settled_wait manager who = has_member who manager && has_settled manager.space who

-- the sessions that have such waits, in rising order
abbrev pub settled_sessions : Managed → List ℕ
settled_sessions manager = filter (has_settled_wait manager) (range_with_len 1 (session_count_of manager))

-- ---- waits that are newly settled

-- the number of a session's settled wait, if the manager has that session and it has a settled wait
abbrev pub settled_number : ℕ → Managed → Option ℕ
settled_number who manager =
    if has_settled_wait manager who then option_map (λ (wait : Pending). wait.number) (seat_at who manager.space).wait else None

-- the number that was told of a session last: the entry of the session, from session 1 on. Without an entry it is 0, which is no wait's number
abbrev pub told_number : ℕ → List ℕ → ℕ
told_number who told = unwrap_or (slice_get told (who - 1)) 0

-- whether a session has a settled wait, and its number isn't the one that was told last
abbrev pub is_newly_settled : Managed → List ℕ → ℕ → Bool
is_newly_settled manager told who = option_map_or (λ number. not (number == told_number who told)) (settled_number who manager) false

-- the sessions that have such waits, in rising order
abbrev pub newly_settled : Managed → List ℕ → List ℕ
newly_settled manager told = filter (is_newly_settled manager told) (range_with_len 1 (session_count_of manager))

-- the numbers told, once those of the settled waits of the first sessions are among them, of so many sessions
abbrev pub noted_to : Managed → List ℕ → ℕ → List ℕ
noted_to manager told zero = told
noted_to manager told (suc n) =
    option_map_or (λ number. slice_set (noted_to manager told n) n number) (settled_number (suc n) manager) (noted_to manager told n)

-- the same of all sessions
abbrev pub noted : Managed → List ℕ → List ℕ
noted manager told = noted_to manager told (session_count_of manager)

-- the newly settled sessions are written, and their waits are told then. If there is no room for all of them, none is
abbrev pub IsNoted : Managed → List ℕ → List ℕ → ℕ → Type 0
IsNoted manager told after room =
    after ≡ (if nat_le (length (newly_settled manager told)) room then noted manager told else told)

-- ---- tickets

-- how the wait of a session is settled, if the manager has that session and it has a settled wait
abbrev pub how_settled : ℕ → Managed → Option Settled
how_settled who manager =
    if has_member who manager then option_and_then (λ (wait : Pending). wait.settled) (seat_at who manager.space).wait else None

-- how long a context keeps the ticket of a number: the one that it has, or else the one that it waits for
abbrev pub duration_in : ℕ → ContextView → Option Duration
duration_in id context =
    option_or (option_map (λ (ticket : Kept). ticket.duration) (ticket_kept id context.kept)) (option_map (λ (wanted : Wanted). wanted.duration) context.wait)

-- how long the ticket of a number is kept at a session's seat, as a number
abbrev pub duration_at_seat : ℕ → Option Seat → ℕ
duration_at_seat id (Some (seat.Kept context)) = option_map_or duration_rank (duration_in id context) unkept_duration
duration_at_seat id _ = unkept_duration

-- how long a ticket is kept, as a number
abbrev pub duration_told : Managed → Ticket → ℕ
duration_told manager ticket = duration_at_seat ticket.number (seat_of ticket.session manager)

-- the rows of a granted and of a waiting ticket
abbrev pub granted_row : Managed → Ticket → LockRow
granted_row manager ticket = lock_row granted_status (duration_told manager ticket) ticket

abbrev pub waiting_row : Managed → Ticket → LockRow
waiting_row manager ticket = lock_row (waiting_status (how_settled ticket.session manager)) (duration_told manager ticket) ticket

-- the tickets of a lock: the granted ones, in the order in which they were granted, and then the waiting ones, in the order of arrival
abbrev pub lock_rows : Managed → BookView → List LockRow
lock_rows manager book = map (granted_row manager) book.granted ++ map (waiting_row manager) book.waiting

-- the waiting tickets of a place
abbrev pub waiting_at : ℕ → Core → List Ticket
waiting_at place space = option_map_or (λ (book : BookView). book.waiting) (keyed_book place space) []

-- the rows of a lock are written, and their number is told, if there is such a lock
abbrev pub LockTold : Managed → Option BookView → List LockRow → List LockRow → Option ℕ → Type 0
LockTold manager None before after count = (after ≡ before) × (count ≡ None)
LockTold manager (Some book) before after count =
    (after ≡ room_written (lock_rows manager book) before) × (count ≡ Some (length (lock_rows manager book)))
