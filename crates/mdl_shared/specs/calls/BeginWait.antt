-- A lock, or otherwise a wait for it: on the fast path, or, where that is closed, in one visit to the place, once all fast tickets of the session are slow
-- ones. If a step finds the request blocked there, the next step opens the wait.
use Rattle.std.specs.Prelude.{◌≡◌, ◌⊎◌, ℕ, true, List, [], ◌∷◌, Option, Some}
use Rattle.mdl_shared.specs.FirstWords.{Answer, AreStepsOf, ByLatch, Deed, Gain, Granted, IsGranted, KeepsDebts, LacksRoomForWish, Lists, MeetsBlocked, MeetsFull, MeetsOpening, Mode, OwesSame, Refused, SessionTicket, SessionView, SpaceError, StepRecord, StepSpec, Waits, kind_pinned, no_steps, obtrudes_at, wish_fault}

-- why the session's pins and own lists refuse it
abbrev pub own_fault : ℕ → Mode → List ℕ → Lists → Option SpaceError
own_fault place mode pins l = wish_fault (kind_pinned place pins l.known) l.asks mode l.next

-- the ticket that was granted is gained
abbrev pub did : Mode → Answer → List SessionTicket → List Deed
did mode (Granted id) tickets = Gain id mode ∷ []
did mode _ tickets = []

-- a session that begins to wait has yet to search for a deadlock
abbrev pub owes : Answer → SessionView → SessionView → Type 0
owes (Waits number) a b = OwesSame a b × (b.me.0.searches ≡ true)
owes _ a b = KeepsDebts a b

-- which steps were made, and what they met. A request past the fast path is granted or waits by the book of the place. It is refused for lack of memory, or
-- by a full book: there, or where fast tickets were to become slow
abbrev pub met : ℕ → Mode → Answer → Lists → SessionView → SessionView → Type 0
met place mode (Granted id) l a b = IsGranted place mode (Gain id mode) a b
met place mode (Waits number) l a b =
    ByLatch place mode (obtrudes_at place mode l.known) a b (λ mid. (e f : StepRecord) × AreStepsOf mid.me b.me e f × MeetsBlocked place a.me.0.number mode e
    × MeetsOpening a.table.slots place a.me.0.number l.waits l.next mode f)
met place mode (Refused why) l a b =
    (own_fault place mode a.pins l ≡ Some why) ⊎ LacksRoomForWish (MeetsFull place) place mode (obtrudes_at place mode l.known) why a b
met place mode _ l a b = ⊥

-- the call
abbrev pub begin_wait : ℕ → Mode → StepSpec
begin_wait place mode = record no_steps { fault = own_fault place mode; did = did mode; owes = owes; met = met place mode }
