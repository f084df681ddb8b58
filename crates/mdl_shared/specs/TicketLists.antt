-- A session's own list of its tickets, as the session's calls see it.
use Rattle.std.specs.Prelude.{◌≡◌, ℕ, ◌+◌, ◌<◌, ◌≤◌, Bool, List}
use Rattle.mdl_shared.specs.Prelude.{IsNonDecreasingBy, SessionTicket, own_at}

-- the room of a session's list: for how many more tickets there is room, and below which place those may be
pub record Room : Type 0 where
  pub spare : ℕ
  pub reach : ℕ

-- there is room for one more ticket at a place
abbrev pub HasRoom : ℕ → Room → Type 0
HasRoom place room = (0 < room.spare) × (place < room.reach)

-- there is room for `count` more tickets, at places below `places`
abbrev pub HasRoomFor : ℕ → ℕ → Room → Type 0
HasRoomFor count places room = (count ≤ room.spare) × (places ≤ room.reach)

-- there is the room that there was, or more, except for the tickets gained
abbrev pub KeepsRoom : ℕ → Room → Room → Type 0
KeepsRoom gained room room′ = (room.spare ≤ room′.spare + gained) × (room.reach ≤ room′.reach)

-- tickets are listed by their places: at each place the list has the same ones, in the same order, and the places don't fall
abbrev pub AreByPlace : List SessionTicket → List SessionTicket → Type 0
AreByPlace tickets listed = ((place : ℕ) → own_at place listed ≡ own_at place tickets) × IsNonDecreasingBy (λ (t : SessionTicket). t.place) listed

-- the slow tickets and the fast ones, each in the order in which the session got them, whether the places are owed a reschedule, from place 0 on, and the
-- room for more tickets
pub record TicketList : Type 0 where
  pub slow : List SessionTicket
  pub fast : List SessionTicket
  pub owes : List Bool
  pub room : Room

-- the places are owed what they were, and there is the room that there was, or more
pub record KeepsRest (before after : TicketList) : Type 0 where
  pub owes : after.owes ≡ before.owes
  pub room : KeepsRoom 0 before.room after.room
