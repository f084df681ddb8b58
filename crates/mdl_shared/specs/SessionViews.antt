-- A session of the shared table as a lock space, for the crates that depend on lock spaces, by what the session keeps of its own between two calls.
use Rattle.std.specs.Prelude.{◌≡◌, ℕ, ◌-◌, ◌==◌, List, map, filter_map, Option, Some, None, if◌then◌else◌}
use Rattle.mdl_calls.specs.declared.answers.Settled.TheVariants.{Granted}
use Rattle.mdl_steps.specs.declared.wait_word.Loss.TheVariants as loss
use Rattle.mdl_shared.specs.Prelude.{Ask, Killed, KnownKey, Mine, Note, Reading, SeatState, SessionData, SessionTicket, Settled, TableId, Timeout, Victim, View, granted_state, interleaved, lost_state, option_map}
use Rattle.mdl_shared.specs.OwnLists.{as_held}
use Rattle.mdl_shared.specs.TicketLists.{KeepsRoom, Room}

-- how a wait is settled, by the state of its word
abbrev pub settled_of : ℕ → Option Settled
settled_of state =
    if state == granted_state then Some Granted
    else (if state == lost_state loss.Victim then Some Victim
    else (if state == lost_state loss.Timeout then Some Timeout else (if state == lost_state loss.Killed then Some Killed else None)))

-- how the session knows its wait to be settled, by the state that it met
abbrev pub settled_told : Option ℕ → Option Settled
settled_told None = None
settled_told (Some state) = settled_of state

-- the version that is noted under a ticket, with the ticket's place
abbrev pub note_of : SessionTicket → Option Note
note_of t = option_map (λ version. record { place = t.place; version = version }) t.noted

-- ---- a session

-- a session: the table at which it has its seat, how many sessions the space has, what it knows and has there, with its steps, the room of its own list of
-- tickets, and the places that it pins
pub record SessionView : Type 0 where
  pub table : TableId
  pub sessions : ℕ
  pub me : Mine
  pub room : Room
  pub pins : List ℕ

-- the session of a seat, in a space with this number of sessions, with this room and these pins
abbrev pub session_at : SeatState → ℕ → Room → List ℕ → SessionView
session_at seat sessions room pins = record { table = seat.table; sessions = sessions; me = seat.me; room = room; pins = pins }

-- nothing of the session changed, except that it may have more room
abbrev pub StaysSame : SessionView → SessionView → Type 0
StaysSame a b = (b ≡ record a { room = b.room }) × KeepsRoom 0 a.room b.room

-- if the session knew how its wait was settled, it still knows that. Otherwise it may have learnt it
abbrev pub RemembersWait : SessionView → SessionView → Type 0
RemembersWait a b = (state : ℕ) → a.me.0.told ≡ Some state → b.me.0.told ≡ Some state

-- ---- its lists

-- a session's own lists: its slow tickets and its fast ones, each in the order in which it got them, the keys that it has looked up, the number of its
-- next ticket, what it waits for, and the number of its last wait
pub record Lists : Type 0 where
  pub slow : List SessionTicket
  pub fast : List SessionTicket
  pub known : List KnownKey
  pub next : ℕ
  pub asks : Option Ask
  pub waits : ℕ

-- a session's lists, by what it knows and has at the table
abbrev pub lists_seen : View → Lists
lists_seen me = record { slow = me.slow; fast = me.fast; known = me.known; next = me.next; asks = me.asks; waits = me.waits }

-- all tickets of the lists, in the order in which the session got them
abbrev pub all_tickets : Lists → List SessionTicket
all_tickets l = interleaved l.slow l.fast

-- all tickets of a session, by what it has at the table
abbrev pub tickets_seen : View → List SessionTicket
tickets_seen me = all_tickets (lists_seen me)

-- the session has the same number, at the same table of the same space, the same lists, the same pins and at least the same room, and read nothing
pub record KeepsLists (a b : SessionView) : Type 0 where
  pub number : b.me.0.number ≡ a.me.0.number
  pub table : b.table ≡ a.table
  pub sessions : b.sessions ≡ a.sessions
  pub lists : lists_seen b.me.0 ≡ lists_seen a.me.0
  pub pins : b.pins ≡ a.pins
  pub reads : b.me.0.reads ≡ a.me.0.reads
  pub room : KeepsRoom 0 a.room b.room

-- ---- as a lock space

-- the session with this number as a lock space, by its lists and its pins, by what it knows of its wait's state, and by what it read
abbrev pub data_by : ℕ → Lists → List ℕ → Option ℕ → List Reading → SessionData
data_by number lists pins told reads = record {
  number = number;
  own = record {
    held = map as_held (all_tickets lists);
    wait = option_map (λ (a : Ask). record { number = lists.waits; place = a.place; mode = a.mode }) lists.asks;
    pins = pins;
  };
  numbers = record { last_ticket = lists.next - 1; last_wait = lists.waits };
  known = lists.known;
  settled = settled_told told;
  notes = filter_map note_of (all_tickets lists);
  reads = reads;
}

-- a session as a lock space: what it has of the space, as plain data
abbrev pub data_of : SessionView → SessionData
data_of s = data_by s.me.0.number (lists_seen s.me.0) s.pins s.me.0.told s.me.0.reads
