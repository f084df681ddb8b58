-- What a session has in a lock space, and how that changes. What each call does to it is in `Effects`.
use Rattle.std.specs.Prelude.{◌≡◌, ℕ, ◌+◌, Bool, true, not, ◌&&◌, ◌==◌, nat_lt, List, [], ◌∷◌, ◌++◌, map, filter, find, Option, Some, None, is_some, if◌then◌else◌, IsTrue}
use Rattle.mdl_calls.specs.Prelude.{Held, Mode, covers, list_all, list_any, option_map}

-- a wait that isn't ended: its number, and the place and the mode that the session waits for
pub record Wait : Type 0 where
  pub number : ℕ
  pub place : ℕ
  pub mode : Mode

-- what a session has: its held tickets, in the order in which it got them, its wait, and the places that it pins, as `with_place` puts them in order. A pin
-- is the session's claim that the place keeps its key.
pub record SessionLocks : Type 0 where
  pub held : List Held
  pub wait : Option Wait
  pub pins : List ℕ

-- the session holds no ticket, and has no wait. It may pin places.
abbrev pub HasNothing : SessionLocks → Type 0
HasNothing own = (own.held ≡ []) × (own.wait ≡ None)

-- the last numbers that were given to a session's tickets and waits
pub record Numbers : Type 0 where
  pub last_ticket : ℕ
  pub last_wait : ℕ

-- whether the numbers of tickets rise: each is below all later ones
abbrev pub are_rising : List Held → Bool
are_rising [] = true
are_rising (ticket ∷ later) = list_all (λ other. nat_lt ticket.id other.id) later && are_rising later

-- the numbers of the session's held tickets rise: no two are the same, and the newest ticket has the greatest
abbrev pub IsRising : SessionLocks → Type 0
IsRising own = IsTrue (are_rising own.held)

-- whether a ticket has this number
abbrev pub is_number : ℕ → Held → Bool
is_number id ticket = ticket.id == id

-- the held ticket of a number, if there is one
abbrev pub ticket_held : ℕ → SessionLocks → Option Held
ticket_held id own = find (is_number id) own.held

-- whether a ticket of this number is held
abbrev pub holds : ℕ → SessionLocks → Bool
holds id own = is_some (ticket_held id own)

-- the number of the session's wait, if it has one
abbrev pub wait_number : SessionLocks → Option ℕ
wait_number own = option_map (λ wait. wait.number) own.wait

-- whether the session has a wait
abbrev pub is_waiting : SessionLocks → Bool
is_waiting own = is_some own.wait

-- whether the session pins a place
abbrev pub is_pinned : ℕ → SessionLocks → Bool
is_pinned place own = list_any (λ pin. pin == place) own.pins

-- whether the places rise: each is below all later ones
abbrev pub are_rising_places : List ℕ → Bool
are_rising_places [] = true
are_rising_places (place ∷ later) = list_all (λ other. nat_lt place other) later && are_rising_places later

-- whether the places of these tickets are pinned
abbrev pub are_at_pins : SessionLocks → List Held → Bool
are_at_pins own tickets = list_all (λ (ticket : Held). is_pinned ticket.place own) tickets

-- rising places with one more among them, unless it is there already
abbrev pub with_place : ℕ → List ℕ → List ℕ
with_place place [] = place ∷ []
with_place place (pin ∷ pins) =
    if pin == place then pin ∷ pins else (if nat_lt place pin then place ∷ pin ∷ pins else pin ∷ with_place place pins)

-- places without this one
abbrev pub without_place : ℕ → List ℕ → List ℕ
without_place place pins = filter (λ pin. not (pin == place)) pins

-- what the session has after it pinned a place
abbrev pub pinning : ℕ → SessionLocks → SessionLocks
pinning place own = record own { pins = with_place place own.pins }

-- what it has after it gave up its pin of a place
abbrev pub unpinning : ℕ → SessionLocks → SessionLocks
unpinning place own = record own { pins = without_place place own.pins }

-- what it has after it got one more ticket
abbrev pub gaining : ℕ → ℕ → Mode → SessionLocks → SessionLocks
gaining id place mode own = record own { held = own.held ++ record { id = id; place = place; mode = mode } ∷ [] }

-- what it has after a wait began
abbrev pub waiting : ℕ → ℕ → Mode → SessionLocks → SessionLocks
waiting number place mode own = record own { wait = Some (record { number = number; place = place; mode = mode }) }

-- what it has after its wait ended without a ticket
abbrev pub ending : SessionLocks → SessionLocks
ending own = record own { wait = None }

-- what it has after its wait ended with the ticket that it waited for
abbrev pub winning : ℕ → Option Wait → SessionLocks → SessionLocks
winning id None own = own
winning id (Some wait) own = gaining id wait.place wait.mode (ending own)

-- what it has after it released a ticket
abbrev pub giving_up : ℕ → SessionLocks → SessionLocks
giving_up id own = record own { held = filter (λ ticket. not (is_number id ticket)) own.held }

-- what it has after it got a second ticket at a held one's place
abbrev pub cloning : ℕ → Mode → Option Held → SessionLocks → SessionLocks
cloning id mode None own = own
cloning id mode (Some ticket) own = gaining id ticket.place mode own

-- what it has after a ticket's mode was changed
abbrev pub changing : ℕ → (Mode → Mode) → SessionLocks → SessionLocks
changing id change own =
    record own { held = map (λ ticket. if is_number id ticket then record ticket { mode = change ticket.mode } else ticket) own.held }

-- the mode of a ticket after its upgrade to a mode: a held mode that covers that already stays
abbrev pub upgraded : Mode → Mode → Mode
upgraded mode held = if covers held mode then held else mode

-- what it has after a ticket got the mode of another one, which was released
abbrev pub merging : ℕ → ℕ → Option Held → SessionLocks → SessionLocks
merging old new None own = own
merging old new (Some ticket) own = changing old (λ _. ticket.mode) (giving_up new own)

-- the last numbers after one more ticket got a number
abbrev pub ticket_drawn : Numbers → Numbers
ticket_drawn numbers = record numbers { last_ticket = numbers.last_ticket + 1 }

-- the last numbers after a wait got a number, and the ticket that waits got one
abbrev pub wait_drawn : Numbers → Numbers
wait_drawn numbers = record { last_ticket = numbers.last_ticket + 1; last_wait = numbers.last_wait + 1 }

-- a ticket gets the next number
abbrev pub DrawsTicket : ℕ → Numbers → Numbers → Type 0
DrawsTicket id before after = (id ≡ before.last_ticket + 1) × (after ≡ ticket_drawn before)

-- a wait gets the next number, and its ticket gets one
abbrev pub DrawsWait : ℕ → Numbers → Numbers → Type 0
DrawsWait number before after = (number ≡ before.last_wait + 1) × (after ≡ wait_drawn before)
