-- What a session's own lists say before a call goes on under the latch of a place, and what came of it. Its fast tickets are slow by then.
use Rattle.std.specs.Prelude.{◌≡◌, ◌⊎◌, ℕ, ◌<◌, true, [], ◌∷◌, Some, None}
use Rattle.mdl_shared.specs.FirstWords.{Alter, DoesQuietly, Full, FullForFast, Gain, HasRoom, IsClosed, KeepsRoom, Kind, LacksMemory, Lose, MeetsBlocked, MeetsGrantable, MeetsTicket, Member, MergesOwn, Mode, OutOfMemory, SessionTicket, SessionView, ShowsStep, SlowsAll, SpaceError, StopsSlowing, VisitsOnce, clone_fault, has_pin, increment_at, kind_pinned, merge_fault, most_numbers, numbered, upgrade_fault, wish_fault}
use Rattle.mdl_shared.specs.FastWishes.{BecomesSlow}
use Rattle.mdl_shared.specs.Passes.{view_of}

-- ---- before the fast path is tried

-- the session, which pins a place of this kind, has no wait, and may get a ticket with its next number
pub record MayTryFastFirst (place : ℕ) (kind : Kind) (m : Member) : Type 0 where
  pub idle : m.asks ≡ None
  pub pinned : kind_pinned place m.known.pins m.known.known ≡ Some kind
  pub number : m.next < most_numbers

-- the session has no wait, it pins the place, a fast ticket in the mode would add this much to the word of the place, there is room for the ticket, and its
-- number isn't used up
pub record MayGainFast (place : ℕ) (mode : Mode) (one : ℕ) (m : Member) : Type 0 where
  pub idle : m.asks ≡ None
  pub pinned : has_pin place m.known.pins ≡ true
  pub counted : increment_at place mode m.known.known ≡ Some one
  pub number : m.next < most_numbers
  pub room : HasRoom place m.tickets.room

-- it wasn't granted: the fast path was closed to the request for the mode, which the session found first, and then it made its fast tickets slow. Its list has
-- room for the ticket
abbrev pub SlowsFirst : ℕ → Mode → Member → Member → Type 0
SlowsFirst place mode m m′ =
    BecomesSlow (view_of m) (view_of m′) × IsClosed place mode SlowsAll (view_of m) (view_of m′) × (m′.tickets.fast ≡ []) × HasRoom place m′.tickets.room

-- why it wasn't: memory ran out, or the fast path was closed and a book had no room for the session's fast tickets
abbrev pub LacksRoomFirst : ℕ → Mode → SpaceError → SessionView → SessionView → Type 0
LacksRoomFirst place mode why a b =
    ((why ≡ OutOfMemory) × LacksMemory place mode StopsSlowing a b) ⊎ ((why ≡ Full) × IsClosed place mode StopsSlowing a b × FullForFast a b)

-- ---- before the latch is taken

-- the session may ask for a mode at a place of this kind, which it pins: no cause refuses that, and its list has room for the ticket
pub record MayAskByLatch (place : ℕ) (kind : Kind) (mode : Mode) (m : Member) : Type 0 where
  pub pinned : kind_pinned place m.known.pins m.known.known ≡ Some kind
  pub clear : wish_fault (Some kind) m.asks mode m.next ≡ None
  pub unfast : m.tickets.fast ≡ []
  pub room : HasRoom place m.tickets.room

-- it may get a second ticket beside one that it has, and its list has room for it
pub record MayCloneByLatch (ticket : SessionTicket) (mode : Mode) (m : Member) : Type 0 where
  pub held : numbered ticket.number m.tickets.slow ≡ Some ticket
  pub clear : clone_fault (Some ticket) m.asks mode m.known.known m.next ≡ None
  pub unfast : m.tickets.fast ≡ []
  pub room : HasRoom ticket.place m.tickets.room

-- it has both tickets, and may merge them
pub record MayMergeByLatch (kept gone : SessionTicket) (m : Member) : Type 0 where
  pub held : (numbered kept.number m.tickets.slow ≡ Some kept) × (numbered gone.number m.tickets.slow ≡ Some gone)
  pub clear : merge_fault (Some kept) (Some gone) m.asks ≡ None
  pub unfast : m.tickets.fast ≡ []

-- it may ask for a mode for a ticket that it has
pub record MayUpgradeByLatch (ticket : SessionTicket) (mode : Mode) (m : Member) : Type 0 where
  pub held : numbered ticket.number m.tickets.slow ≡ Some ticket
  pub clear : upgrade_fault mode m.known.known m.asks (Some ticket) ≡ None
  pub unfast : m.tickets.fast ≡ []

-- ---- what came of it

-- the session got a second ticket with its next number beside this one, and a step shows that it had this one then
abbrev pub WasClonedByLatch : SessionTicket → Mode → ℕ → ℕ → SessionView → SessionView → Type 0
WasClonedByLatch ticket mode next new a b =
    (new ≡ next) × DoesQuietly ticket.place (Gain new mode ∷ []) a b × MeetsTicket ticket.number (Gain new mode ∷ []) a b ticket × KeepsRoom 1 a.room b.room

-- the ticket got the mode, and a step shows that the request could be granted
abbrev pub WasUpgradedByLatch : SessionTicket → Mode → SessionView → SessionView → Type 0
WasUpgradedByLatch ticket mode a b =
    DoesQuietly ticket.place (Alter ticket.number mode ∷ []) a b
    × ShowsStep a b (MeetsGrantable ticket.place a.me.0.number mode (Alter ticket.number mode))

-- nothing was done, and a step shows that the request couldn't be granted
abbrev pub WasBlockedByLatch : SessionTicket → Mode → SessionView → SessionView → Type 0
WasBlockedByLatch ticket mode a b = DoesQuietly ticket.place [] a b × ShowsStep a b (MeetsBlocked ticket.place a.me.0.number mode)

-- the one ticket got the mode of the other, which was released, by a step in one visit to the place
pub record WasMergedByLatch (kept gone : SessionTicket) (m m′ : Member) : Type 0 where
  pub merged : DoesQuietly kept.place (Alter kept.number gone.mode ∷ Lose gone.number ∷ []) (view_of m) (view_of m′)
  pub met : MergesOwn kept gone m.seat m′.seat
  pub once : VisitsOnce kept.place m.seat.me m′.seat.me
  pub room : KeepsRoom 0 m.tickets.room m′.tickets.room
