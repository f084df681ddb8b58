-- The rows in which C gets tickets, and how lists are written into memory of the caller. The form is this project's own.
use Rattle.std.specs.Prelude.{◌≡◌, ℕ, List, ◌++◌, length, take, drop, Option, Some}
use Rattle.mdl_key.specs.Words.{mode_rank}
use Rattle.mdl_book.specs.declared.ticket.Ticket.{Ticket}
use Rattle.mdl_calls.specs.declared.answers.Held.{Held}
use Rattle.mdl_calls.specs.declared.answers.Settled.{Settled}
use Rattle.mdl_calls.specs.declared.answers.Settled.TheVariants as settled
use Rattle.mdl_c_parts.specs.declared.rows.HeldRow.{HeldRow}
use Rattle.mdl_c_parts.specs.declared.rows.LockRow.{LockRow}

-- ---- lists in the caller's memory

-- the room after a list is written: as many entries as fit, and behind them what was there before
abbrev pub room_written : {T : Type 0} → List T → List T → List T
room_written items room = take (length room) items ++ drop (length items) room

-- a list is written as far as there is room, and the count is the length of the whole list
abbrev pub IsListWritten : {T : Type 0} → List T → List T → List T → ℕ → Type 0
IsListWritten items before after count = (after ≡ room_written items before) × (count ≡ length items)

-- no list is written: room and count are unchanged
abbrev pub IsKept : {T : Type 0} → List T → List T → ℕ → ℕ → Type 0
IsKept before after old_count count = (after ≡ before) × (count ≡ old_count)

-- ---- tickets

-- the row of a held ticket. The mode is a number
abbrev pub held_row : Held → HeldRow
held_row held = record { ticket = held.id; place = held.place; mode = mode_rank held.mode }

-- the status of a ticket in a book: it is granted, or waiting, which the Performance Schema calls pending, or its wait is lost and not ended
abbrev pub granted_status : ℕ
granted_status = 0

abbrev pub pending_status : ℕ
pending_status = 1

abbrev pub lost_as_victim_status : ℕ
lost_as_victim_status = 2

abbrev pub lost_by_timeout_status : ℕ
lost_by_timeout_status = 3

abbrev pub lost_by_kill_status : ℕ
lost_by_kill_status = 4

-- the status of a waiting ticket whose wait is settled in this way, if it is settled
abbrev pub waiting_status : Option Settled → ℕ
waiting_status (Some settled.Victim) = lost_as_victim_status
waiting_status (Some settled.Timeout) = lost_by_timeout_status
waiting_status (Some settled.Killed) = lost_by_kill_status
waiting_status _ = pending_status

-- the duration of a ticket that no context keeps
abbrev pub unkept_duration : ℕ
unkept_duration = 3

-- the row of a ticket with this status and this duration. The mode is a number
abbrev pub lock_row : ℕ → ℕ → Ticket → LockRow
lock_row status duration ticket =
    record { ticket = ticket.number; session = ticket.session; mode = mode_rank ticket.mode; status = status; duration = duration }
