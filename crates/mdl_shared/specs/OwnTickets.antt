-- How a session keeps its own list of tickets: the tickets without their notes, and what is kept of each place.
use Rattle.std.specs.Prelude.{◌≡◌, ℕ, ◌-◌, ◌≤◌, Bool, ◌==◌, ◌&&◌, not, List, count_by, filter, if◌then◌else◌, is_some, length, map, slice_get, slice_index_or, ◌<◌, None, Option, Some}
use Rattle.mdl_shared.specs.Prelude.{Gained, OfPlace, SessionTicket, numbered, option_and_then, option_map_or}

-- how many tickets are counted at a place
abbrev pub counted_at : ℕ → List OfPlace → ℕ
counted_at place places = option_map_or (λ (p : OfPlace). p.tickets) (slice_get places place) 0

-- how many fast tickets are counted at a place
abbrev pub fast_counted_at : ℕ → List OfPlace → ℕ
fast_counted_at place places = option_map_or (λ (p : OfPlace). p.fast) (slice_get places place) 0

-- the version that is noted at a place
abbrev pub noted_in : ℕ → List OfPlace → Option ℕ
noted_in place places = option_and_then (λ (p : OfPlace). if p.is_noted then Some p.version else None) (slice_get places place)

-- whether the places are owed a reschedule, from place 0 on
abbrev pub flags_of : List OfPlace → List Bool
flags_of places = map (λ (p : OfPlace). p.owes) places

-- there are as many places as before, each counts as many tickets, and has the same note
pub record KeepsCounts (before after : List OfPlace) : Type 0 where
  pub as_many : length after ≡ length before
  pub counted : (q : ℕ) → counted_at q after ≡ counted_at q before
  pub noted : (q : ℕ) → noted_in q after ≡ noted_in q before

-- a ticket with the note of its place
abbrev pub with_note : List OfPlace → Gained → SessionTicket
with_note places t = record { number = t.id; place = t.place; mode = t.mode; noted = noted_in t.place places }

-- the slow tickets, with their notes
abbrev pub slow_of : List OfPlace → List Gained → List SessionTicket
slow_of places tickets = map (with_note places) (filter (λ t. not t.fast) tickets)

-- the fast tickets, with their notes
abbrev pub fast_of : List OfPlace → List Gained → List SessionTicket
fast_of places tickets = map (with_note places) (filter (λ t. t.fast) tickets)

-- whether a ticket is at a place
abbrev pub is_at_place : ℕ → Gained → Bool
is_at_place place t = t.place == place

-- whether a ticket is a fast one at a place
abbrev pub is_fast_there : ℕ → Gained → Bool
is_fast_there place t = t.fast && t.place == place

-- a ticket, made slow if it has this number
abbrev pub slowed : ℕ → Gained → Gained
slowed id t = record t { fast = t.fast && not (t.id == id) }

-- a ticket, made slow if one of these has its number
abbrev pub slowed_as : List SessionTicket → Gained → Gained
slowed_as these t = record t { fast = t.fast && not (is_some (numbered t.id these)) }

-- the same is kept of a place before and after
abbrev pub AreAt : ℕ → List OfPlace → List OfPlace → Type 0
AreAt place old new =
    (counted_at place new ≡ counted_at place old) × (fast_counted_at place new ≡ fast_counted_at place old) × (noted_in place new ≡ noted_in place old)

-- the ticket at an index has this number
abbrev pub StandsAt : ℕ → ℕ → List Gained → Type 0
StandsAt id at tickets = (at < length tickets) × ((d : Gained) → (slice_index_or tickets at d).id ≡ id)

-- this ticket is one of the list's, and has this number
abbrev pub IsNumbered : ℕ → Gained → List Gained → Type 0
IsNumbered id t tickets = (at : ℕ) × StandsAt id at tickets × (t ≡ slice_index_or tickets at t)

-- the last ticket has this number, is at this place, and is a fast one or not
abbrev pub IsLastGained : ℕ → ℕ → Bool → List Gained → Type 0
IsLastGained place id fast tickets =
    (0 < length tickets)
    × ((d : Gained) → (slice_index_or tickets (length tickets - 1) d).id ≡ id)
    × ((d : Gained) → (slice_index_or tickets (length tickets - 1) d).place ≡ place)
    × ((d : Gained) → (slice_index_or tickets (length tickets - 1) d).fast ≡ fast)

-- the ticket that was found, if it is a fast one
abbrev pub fast_found : Option (SessionTicket × Bool) → Option SessionTicket
fast_found found = option_and_then (λ (t : SessionTicket × Bool). if t.1 then Some t.0 else None) found

-- each ticket has a number below those of all later ones
abbrev pub HaveRisingNumbers : List Gained → Type 0
HaveRisingNumbers tickets =
    (i j : ℕ) (d : Gained) → i < j → j < length tickets → (slice_index_or tickets i d).id < (slice_index_or tickets j d).id

-- what always holds of the list: the numbers rise, the tickets and the fast ones are counted at each place, the fast ones also in all, and there are at
-- most as many places as a table can have
pub record AreKept (tickets : List Gained) (places : List OfPlace) (fast : ℕ) : Type 0 where
  pub rising : HaveRisingNumbers tickets
  pub counted : (place : ℕ) → counted_at place places ≡ count_by (is_at_place place) tickets
  pub fast_counted : (place : ℕ) → fast_counted_at place places ≡ count_by (is_fast_there place) tickets
  pub all_fast : fast ≡ count_by (λ t. t.fast) tickets
  pub narrow : length places ≤ 65536
