-- A context's tickets and wait, as its own code represents them.
use Rattle.std.specs.Prelude.{◌≡◌, ℕ, Bool, true, false, not, ◌&&◌, ◌||◌, ◌==◌, List, [], ◌∷◌, ◌++◌, map, filter, find, length, Option, Some, None, if◌then◌else◌}
use Rattle.std.specs.Option.{option_map, option_map_or}
use Rattle.mdl_key.specs.declared.mode.Mode.{Mode}
use Rattle.mdl_key.specs.declared.mode.Duration.{Duration}
use Rattle.mdl_key.specs.declared.mode.Duration.TheVariants.{Transaction, Explicit}
use Rattle.mdl_key.specs.Keys.{KeyName}
use Rattle.mdl_calls.specs.declared.answers.Held.{Held}
use Rattle.mdl_context.specs.declared.kept.Kept.{Kept}
use Rattle.mdl_context.specs.declared.kept.Wanted.{Wanted}
use Rattle.mdl_context.specs.Wishes.{Wish}
use Rattle.mdl_context.specs.Contexts.{ContextView, held_of, is_user_lock}
use Rattle.mdl_context.specs.Indexes.{Index, ticket_numbers, has_room_for}

-- the kept tickets in the order in which the session got them, the known places, the tickets' numbers by place, the wait, and
-- whether the list has room for one more ticket
pub record HoldingsView : Type 0 where
  pub kept : List Kept
  pub known : List (KeyName × ℕ)
  pub index : Index
  pub wait : Option Wanted
  pub has_place : Bool

-- a session's context with these tickets, places and wait
abbrev pub context_of : ℕ → HoldingsView → ContextView
context_of who holdings = record { who = who; kept = holdings.kept; known = holdings.known; wait = holdings.wait }

-- whether a ticket has this number
abbrev pub has_ticket_number : ℕ → Kept → Bool
has_ticket_number id ticket = ticket.id == id

-- the tickets without that of a number
abbrev pub without_number : ℕ → List Kept → List Kept
without_number id kept = filter (λ ticket. not (has_ticket_number id ticket)) kept

-- the tickets, with the mode of the one with this number changed
abbrev pub with_kept_mode : ℕ → (Mode → Mode) → List Kept → List Kept
with_kept_mode id change kept = map (λ ticket. if has_ticket_number id ticket then record ticket { mode = change ticket.mode } else ticket) kept

-- whether a ticket is at this place
abbrev pub is_kept_at : ℕ → Kept → Bool
is_kept_at place ticket = ticket.place == place

-- the numbers of a place's tickets, in the order in which the session got them
abbrev pub numbers_among : ℕ → List Kept → List ℕ
numbers_among place kept = map (λ ticket. ticket.id) (filter (is_kept_at place) kept)

-- an index has exactly the tickets' numbers, at their places
abbrev pub IsIndexOf : List Kept → Index → Type 0
IsIndexOf kept index = (place : ℕ) → ticket_numbers place index ≡ numbers_among place kept

-- whether a place has a ticket's number, or is that of the wait
abbrev pub needs_place : Index → Option Wanted → ℕ → Bool
needs_place index wait place = not (length (ticket_numbers place index) == 0) || option_map_or (λ wanted. wanted.place == place) wait false

-- whether there is room for one more ticket at a place
abbrev pub has_room : ℕ → HoldingsView → Bool
has_room place holdings = holdings.has_place && has_room_for place holdings.index

-- the earliest ticket that passes a test, as the lock space shows it
abbrev pub earliest : (Kept → Bool) → List Kept → Option Held
earliest test kept = option_map held_of (find test kept)

-- a ticket with its duration replaced
abbrev pub kept_for : Duration → Kept → Kept
kept_for duration ticket = record ticket { duration = duration }

-- a ticket, kept for this duration if it has this number
abbrev pub lasting : ℕ → Duration → Kept → Kept
lasting id duration ticket = if has_ticket_number id ticket then kept_for duration ticket else ticket

-- the tickets, with the duration of the one with this number replaced
abbrev pub with_duration : ℕ → Duration → List Kept → List Kept
with_duration id duration kept = map (lasting id duration) kept

-- the duration of a ticket once it may last no longer than the transaction
abbrev pub in_transaction : Duration → Duration
in_transaction Explicit = Transaction
in_transaction duration = duration

-- a ticket once it may last no longer than the transaction. A ticket of a user-level lock is unchanged
abbrev pub transactional : List (KeyName × ℕ) → Kept → Kept
transactional known ticket =
    if is_user_lock known ticket.place then ticket else kept_for (in_transaction ticket.duration) ticket

-- the ticket that a request gets
abbrev pub kept_ticket : ℕ → ℕ → Wish → Kept
kept_ticket id place request = record { id = id; place = place; mode = request.mode; duration = request.duration }

-- the ticket that a request waits for, and whether the searches for deadlocks are over
abbrev pub wanted_of : ℕ → Wish → Bool → Wanted
wanted_of place request searched = record { place = place; mode = request.mode; duration = request.duration; upgrades = None; searched = searched }

-- the wait for the second ticket of an upgrade
abbrev pub wanted_upgrade : Kept → Mode → Bool → Wanted
wanted_upgrade ticket mode searched =
    record { place = ticket.place; mode = mode; duration = ticket.duration; upgrades = Some ticket.id; searched = searched }

-- the ticket that a wait is to upgrade, and the new mode, if the wait is for an upgrade
abbrev pub awaited_upgrade : Option Wanted → Option (ℕ × Mode)
awaited_upgrade None = None
awaited_upgrade (Some wanted) = option_map (λ id. (id, wanted.mode)) wanted.upgrades

-- the same wait, noting that its searches are over
abbrev pub search_over : Wanted → Wanted
search_over wanted = record wanted { searched = true }

-- the tickets with the one that was waited for
abbrev pub with_wanted : ℕ → Option Wanted → List Kept → List Kept
with_wanted id None kept = kept
with_wanted id (Some wanted) kept =
    kept ++ record { id = id; place = wanted.place; mode = wanted.mode; duration = wanted.duration } ∷ []
