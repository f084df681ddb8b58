-- A lock, if it can be granted without waiting: on the fast path, or, where that is closed, in one visit to the place, once all fast tickets of the session
-- are slow ones.
use Rattle.std.specs.Prelude.{◌≡◌, ◌⊎◌, ℕ, true, List, [], ◌∷◌, Option, Some}
use Rattle.mdl_shared.specs.FirstWords.{Answer, ByLatch, Deed, Gain, Granted, IsGranted, LacksRoomForWish, Lists, MeetsBlocked, MeetsFullWish, Mode, Refused, SessionTicket, SessionView, ShowsStep, SpaceError, StepSpec, Would_wait, kind_pinned, no_steps, obtrudes_at, wish_fault}

-- why the session's pins and own lists refuse it
abbrev pub own_fault : ℕ → Mode → List ℕ → Lists → Option SpaceError
own_fault place mode pins l = wish_fault (kind_pinned place pins l.known) l.asks mode l.next

-- the ticket that was granted is gained
abbrev pub did : Mode → Answer → List SessionTicket → List Deed
did mode (Granted id) tickets = Gain id mode ∷ []
did mode _ tickets = []

-- which steps were made, and what they met. A request past the fast path is granted or blocked by the book of the place. It is refused for lack of memory,
-- or by a full book: there, or where fast tickets were to become slow
abbrev pub met : ℕ → Mode → Answer → Lists → SessionView → SessionView → Type 0
met place mode (Granted id) l a b = IsGranted place mode (Gain id mode) a b
met place mode Would_wait l a b =
    ByLatch place mode (obtrudes_at place mode l.known) a b (λ mid. ShowsStep mid b (MeetsBlocked place a.me.0.number mode))
met place mode (Refused why) l a b =
    (own_fault place mode a.pins l ≡ Some why)
    ⊎ LacksRoomForWish (MeetsFullWish place a.me.0.number mode true) place mode (obtrudes_at place mode l.known) why a b
met place mode _ l a b = ⊥

-- the call
abbrev pub try_now : ℕ → Mode → StepSpec
try_now place mode = record no_steps { fault = own_fault place mode; did = did mode; met = met place mode }
