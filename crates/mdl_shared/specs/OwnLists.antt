-- What a session's own lists say: what it returns of them, and whether a place is in use.
use Rattle.std.specs.Prelude.{ℕ, ◌==◌, Bool, false, ◌||◌, List, Option, Some, None, is_some, if◌then◌else◌}
use Rattle.mdl_shared.specs.Prelude.{Ask, Held, KnownKey, NoPlace, SessionTicket, SpaceError, key_known, list_any, option_map_or}

-- a session's ticket in the form that callers get
abbrev pub as_held : SessionTicket → Held
as_held t = record { id = t.number; place = t.place; mode = t.mode }

-- why the session can't return the key of a place: it hasn't looked it up
abbrev pub naming_fault : ℕ → List KnownKey → Option SpaceError
naming_fault place known = if is_some (key_known place known) then None else Some NoPlace

-- whether one of the tickets is at a place
abbrev pub has_ticket_at : ℕ → List SessionTicket → Bool
has_ticket_at place tickets = list_any (λ (t : SessionTicket). t.place == place) tickets

-- whether the ticket that is waited for, if any, is at a place
abbrev pub asks_at : ℕ → Option Ask → Bool
asks_at place asks = option_map_or (λ (a : Ask). a.place == place) asks false

-- whether a place is in use, by the session's tickets, what it waits for, and the places that it owes a reschedule
abbrev pub is_used : ℕ → List SessionTicket → Option Ask → List ℕ → Bool
is_used place tickets asks owes = has_ticket_at place tickets || asks_at place asks || list_any (λ p. p == place) owes
