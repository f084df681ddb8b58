-- What a session keeps in its own lists between two calls.
use Rattle.std.specs.Prelude.{◌≡◌, ◌<◌, ◌≤◌, ℕ, ◌^◌, Bool, true, false, ◌&&◌, not, nat_le, nat_lt, List, [], All, Option, Some, None, filter, is_some, if◌then◌else◌}
use Rattle.mdl_shared.specs.Prelude.{AlreadyWaiting, Ask, BadMode, CounterFull, HoldsNoLatch, IsSound, Kind, KnownKey, Mode, NoPlace, NotHeld, SeatState, SessionTicket, SpaceError, enrolled_seat, increment_of, is_known, is_mode_of, is_obtrusive, is_own, key_known, kind_known, list_all, numbered, option_and_then, option_map_or, word_count}
use Rattle.mdl_shared.specs.Debts.{IsOwed}
use Rattle.mdl_shared.specs.Rememberings.{AreAlike}
use Rattle.mdl_shared.specs.SessionViews.{SessionView, data_of, tickets_seen}
use Rattle.mdl_shared.specs.Waitings.{is_ask_last, is_ask_told}

-- a session's tickets have numbers below this
abbrev pub most_numbers : ℕ
most_numbers = 2 ^ 60

-- whether each place that the session has looked up is one of the table's
abbrev pub are_within : ℕ → List KnownKey → Bool
are_within slots known = list_all (λ k. nat_lt 0 k.place && nat_lt k.place slots) known

-- what one fast ticket in a mode adds to the word of a place, if the session has looked up the key there and its word counts the mode
abbrev pub increment_at : ℕ → Mode → List KnownKey → Option ℕ
increment_at place mode known = option_and_then (λ kind. increment_of kind mode) (kind_known place known)

-- whether a mode is obtrusive at a place, if the session has looked up the key there
abbrev pub obtrudes_at : ℕ → Mode → List KnownKey → Bool
obtrudes_at place mode known = option_map_or (λ kind. is_obtrusive kind mode) (kind_known place known) false

-- whether each of these tickets is one that the word of its place counts
abbrev pub are_counted : List KnownKey → List SessionTicket → Bool
are_counted known fast = list_all (λ t. is_some (increment_at t.place t.mode known)) fast

-- what always holds of a session between two calls. As a lock space it is sound. It holds no latch. While it waits it has no fast ticket, and each fast
-- one is at a place that it has looked up, in a mode that the word counts there. The places that it has looked up are the table's. The tickets of a place
-- have one note. The ticket that it waits for has the last number that it gave out, and without a wait it knows of no settled one. It has given out no
-- more wait numbers than ticket numbers. It has looked up the places that it owes a reschedule. It is one of the sessions of the space, for which the
-- table has words
pub record IsMember (s : SessionView) : Type 0 where
  pub sound : IsSound (data_of s)
  pub idle : HoldsNoLatch s.me
  pub unfast : (a : Ask) → s.me.0.asks ≡ Some a → s.me.0.fast ≡ []
  pub plain : are_counted s.me.0.known s.me.0.fast ≡ true
  pub within : are_within s.table.slots s.me.0.known ≡ true
  pub alike : AreAlike (tickets_seen s.me.0)
  pub last : is_ask_last s.me.0.next s.me.0.asks ≡ true
  pub told : is_ask_told s.me.0.asks s.me.0.told ≡ true
  pub fewer : (s.me.0.waits < s.me.0.next) × (s.me.0.waits < most_numbers)
  pub owed : (place : ℕ) → IsOwed place s.me.0.owes → is_known place s.me.0.known ≡ true
  pub counted : (0 < s.me.0.number) × (s.me.0.number ≤ s.sessions)
  pub narrow : (0 < s.table.slots) × (s.table.slots ≤ 65536)
  pub words : s.table.words ≡ word_count s.table.slots s.sessions

-- the seat of a session of a space with this many sessions, whose only step was the one that drew its number
pub record IsNewSeat (sessions : ℕ) (s : SeatState) : Type 0 where
  pub narrow : (0 < s.table.slots) × (s.table.slots ≤ 65536)
  pub counted : (0 < s.me.0.number) × (s.me.0.number ≤ sessions)
  pub words : s.table.words ≡ word_count s.table.slots sessions
  pub fresh : s.me ≡ (enrolled_seat s.table s.me.0.number).me

-- the tickets without the one with this number at a place
abbrev pub without_at : ℕ → ℕ → List SessionTicket → List SessionTicket
without_at place number tickets = filter (λ t. not (is_own place number t)) tickets

-- why a call on the ticket with this number is refused: there is no such ticket
abbrev pub holding_fault : ℕ → List SessionTicket → Option SpaceError
holding_fault number tickets = if is_some (numbered number tickets) then None else Some NotHeld

-- why a request for a mode (a wish) isn't even tried, at a place whose lock is of this kind, or that isn't pinned, by a session with this wait, or none,
-- whose next ticket has this number
abbrev pub wish_fault : Option Kind → Option Ask → Mode → ℕ → Option SpaceError
wish_fault None asks mode next = Some NoPlace
wish_fault (Some kind) asks mode next =
    if is_some asks then Some AlreadyWaiting
    else (if not (is_mode_of kind mode) then Some BadMode else (if nat_le most_numbers next then Some CounterFull else None))

-- the session knows each of these keys to be at its place
abbrev pub AreLearnt : List KnownKey → List KnownKey → Type 0
AreLearnt tables known = All (λ (t : KnownKey). key_known t.place known ≡ Some t.key) tables
