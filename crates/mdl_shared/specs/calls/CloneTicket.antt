-- A second ticket beside a held one: on the fast path, or, where that is closed, in one visit to the place, once all fast tickets of the session are slow
-- ones.
use Rattle.std.specs.Prelude.{◌≡◌, ◌⊎◌, ℕ, false, List, [], ◌∷◌, Option, Some}
use Rattle.mdl_shared.specs.FirstWords.{Answer, Deed, Gain, Granted, IsCloned, LacksRoomForWish, Lists, MeetsFull, Mode, OfTicket, Refused, SessionTicket, SessionView, SpaceError, StepSpec, all_tickets, clone_fault, no_steps, numbered}

-- why the session's own lists refuse it
abbrev pub own_fault : ℕ → Mode → Lists → Option SpaceError
own_fault id mode l = clone_fault (numbered id (all_tickets l)) l.asks mode l.known l.next

-- the second ticket is gained
abbrev pub did : Mode → Answer → List SessionTicket → List Deed
did mode (Granted new) tickets = Gain new mode ∷ []
did mode _ tickets = []

-- which steps were made, and what they met. No flag OBTRUSIVE is raised: if the mode is obtrusive, so is that of the held ticket, and the flag is up
abbrev pub met : ℕ → Mode → Answer → Lists → SessionView → SessionView → Type 0
met id mode (Granted new) l a b = OfTicket id l (λ t. IsCloned t.place mode id (Gain new mode) a b)
met id mode (Refused why) l a b =
    (own_fault id mode l ≡ Some why) ⊎ OfTicket id l (λ t. LacksRoomForWish (MeetsFull t.place) t.place mode false why a b)
met id mode _ l a b = ⊥

-- the call
abbrev pub clone_ticket : ℕ → Mode → StepSpec
clone_ticket id mode = record no_steps { fault = λ pins. own_fault id mode; did = did mode; met = met id mode }
