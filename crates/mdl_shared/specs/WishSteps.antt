-- How a session's requests are tried: on the fast path first, and past it in one visit to the place, once all fast tickets of the session are slow ones.
use Rattle.std.specs.Prelude.{◌≡◌, ◌≢◌, ◌⊎◌, ℕ, ◌<◌, ◌≤◌, Bool, false, List, [], ◌∷◌, length, None}
use Rattle.mdl_calls.specs.declared.space_error.SpaceError.TheVariants as cause
use Rattle.mdl_shared.specs.Prelude.{Deed, Each, FindsObtrusive, GrantsAtLast, IsVisit, MakesMoreSteps, Materialise, MeetsFullFor, MeetsGrantable, MeetsOwn, Mine, Misses, Mode, SessionTicket, SpaceError, StepRecord, VisitsOnce, but_at, lock_word, most_fast, own_at}
use Rattle.mdl_shared.specs.Members.{increment_at, obtrudes_at}
use Rattle.mdl_shared.specs.SessionViews.{SessionView}
use Rattle.mdl_shared.specs.Steps.{ShowsStep, MakesNoStep}
use Rattle.mdl_shared.specs.TicketLists.{HasRoom}

-- ---- fast tickets become slow

-- a step by which the session's fast tickets at a place became slow
abbrev pub MakesSlow : ℕ → StepRecord → Type 0
MakesSlow place e = (e.kind ≡ Materialise) × (e.word ≡ lock_word place)

-- each fast ticket that the session had became slow by a step that was made between the two
abbrev pub AllMadeSlow : SessionView → SessionView → Type 0
AllMadeSlow a b = Each (λ (t : SessionTicket). ShowsStep a b (MakesSlow t.place)) a.me.0.fast

-- this holds from a moment of the call on by which each fast ticket that the session had was made slow. So no word that it met then counted one of its own
-- tickets
abbrev pub FromUnfast : SessionView → (SessionView → Type 0) → Type 0
FromUnfast a fact = (mid : SessionView) × MakesMoreSteps a.me mid.me × AllMadeSlow a mid × fact mid

-- a place is the least one at which there are some of these fast tickets
abbrev pub IsNextFast : ℕ → List SessionTicket → Type 0
IsNextFast place fast = (0 < length (own_at place fast)) × ((q : ℕ) → q < place → own_at q fast ≡ [])

-- the session visited these places one after the other, each once, and made no other step. Each was the least one with a fast ticket of the session, which
-- had these fast tickets at first (`fast`), and left none of those of the place. Others are left (`left`)
abbrev pub SlowsInTurn : List ℕ → List SessionTicket → List SessionTicket → Mine → Mine → Type 0
SlowsInTurn [] fast left m m′ = (left ≡ fast) × (m′ ≡ m)
SlowsInTurn (place ∷ later) fast left m m′ =
    IsNextFast place fast × (mid : Mine) × VisitsOnce place m mid × SlowsInTurn later (but_at place fast) left mid m′

-- the session made all its fast tickets slow, by one visit to each of their places, in rising order, and made no other step
abbrev pub SlowsAll : Mine → Mine → Type 0
SlowsAll m m′ = (places : List ℕ) × SlowsInTurn places m.0.fast [] m m′

-- the session made some of its fast tickets slow in this way, and there was no room for those of the next place: it visited that once, unless memory ran
-- out before. It made no other step
abbrev pub StopsSlowing : Mine → Mine → Type 0
StopsSlowing m m′ =
    (places : List ℕ) × (left : List SessionTicket) × (mid : Mine) × SlowsInTurn places m.0.fast left m mid
    × ((m′ ≡ mid) ⊎ ((place : ℕ) × IsNextFast place left × VisitsOnce place mid m′))

-- the session made all its fast tickets slow, visited a place once after that, and made no other step. It raised the flag OBTRUSIVE there only if it may
-- (`may`). This holds of what it had between
abbrev pub ByVisit : ℕ → Bool → SessionView → SessionView → (SessionView → Type 0) → Type 0
ByVisit place may a b fact = FromUnfast a (λ mid. SlowsAll a.me mid.me × IsVisit place may mid.me b.me × fact mid)

-- ---- the fast path was closed

-- the session tried for a fast ticket at a place and failed: it found the flag OBTRUSIVE up, or eight fast grants missed. It made no other step
abbrev pub TriesInVain : ℕ → Mine → Mine → Type 0
TriesInVain place m m′ = (word : ℕ) × (FindsObtrusive place word m m′ ⊎ Misses place 8 word m m′)

-- the fast path was closed to a request for a mode at a place: the lock's word doesn't count the mode, or the session has as many fast tickets there as it
-- may have, so it made no step; or it tried and failed, and made no other step
abbrev pub FindsClosed : ℕ → Mode → SessionView → Mine → Type 0
FindsClosed place mode a tried =
    ((increment_at place mode a.me.0.known ≡ None) × (tried ≡ a.me))
    ⊎ (((most_fast ≤ length (own_at place a.me.0.fast)) × (tried ≡ a.me)) ⊎ TriesInVain place a.me tried)

-- the fast path was closed to a request for a mode at a place, which the session found first. Then it did this
abbrev pub IsClosed : ℕ → Mode → (Mine → Mine → Type 0) → SessionView → SessionView → Type 0
IsClosed place mode Then a b = (tried : Mine) × FindsClosed place mode a tried × Then tried b.me

-- a request for a mode at a place was decided in one visit to the place: this holds from a moment of the call on by which the fast path was closed to the
-- request, and each fast ticket that the session had was made slow. Before that it made no other step. In the visit it raised the flag OBTRUSIVE only if it
-- may (`may`)
abbrev pub ByLatch : ℕ → Mode → Bool → SessionView → SessionView → (SessionView → Type 0) → Type 0
ByLatch place mode may a b fact = FromUnfast a (λ mid. IsClosed place mode SlowsAll a mid × IsVisit place may mid.me b.me × fact mid)

-- ---- granted

-- a request for a mode at a place was granted by this deed: by a fast grant, after which nothing else was done, or by the step that gave the latch back,
-- by whose record it could be granted
abbrev pub IsGranted : ℕ → Mode → Deed → SessionView → SessionView → Type 0
IsGranted place mode deed a b =
    GrantsAtLast place deed a.me b.me
    ⊎ ByLatch place mode (obtrudes_at place mode a.me.0.known) a b (λ mid. ShowsStep mid b (MeetsGrantable place a.me.0.number mode deed))

-- a second ticket was granted by this deed, beside the one with this number: by a fast grant, or while that one was in the granted list
abbrev pub IsCloned : ℕ → Mode → ℕ → Deed → SessionView → SessionView → Type 0
IsCloned place mode id deed a b =
    GrantsAtLast place deed a.me b.me
    ⊎ ByLatch place mode false a b (λ mid. ShowsStep mid b (λ e. MeetsOwn place a.me.0.number id e × (e.deeds ≡ deed ∷ [])))

-- ---- refused for lack of room

-- a step met a place's book without room for all fast tickets that the session had there: they were to become slow, and stayed fast
abbrev pub FullForFast : SessionView → SessionView → Type 0
FullForFast a b =
    (q : ℕ) × (0 < length (own_at q a.me.0.fast)) × (own_at q b.me.0.fast ≡ own_at q a.me.0.fast)
    × ShowsStep a b (MeetsFullFor (length (own_at q a.me.0.fast)) q)

-- why the session's fast tickets (it has some) couldn't all become slow: memory ran out, or a book was full
abbrev pub LacksRoomForFast : SpaceError → SessionView → SessionView → Type 0
LacksRoomForFast why a b = (a.me.0.fast ≢ []) × ((why ≡ cause.OutOfMemory) ⊎ ((why ≡ cause.Full) × FullForFast a b))

-- the fast path was closed to a request for a mode at a place, and a step met a full book: one without room for the session's fast tickets, or, once those
-- were slow, the book of the place without room for one more ticket (`Full`)
abbrev pub FullForWish : (StepRecord → Type 0) → ℕ → Mode → Bool → SessionView → SessionView → Type 0
FullForWish Full place mode may a b =
    ByLatch place mode may a b (λ mid. ShowsStep mid b Full) ⊎ (IsClosed place mode StopsSlowing a b × FullForFast a b)

-- a request for a mode at a place may need memory: the session's list had no room for a ticket there, and no step was made, or the fast path was closed to
-- the request, and then the session did this
abbrev pub LacksMemory : ℕ → Mode → (Mine → Mine → Type 0) → SessionView → SessionView → Type 0
LacksMemory place mode Then a b = ((HasRoom place a.room → ⊥) × MakesNoStep a b) ⊎ IsClosed place mode Then a b

-- the session had no room for its fast tickets at a place, or it made all slow and visited a place once after that. It made no other step
abbrev pub StopsOrVisits : ℕ → Bool → Mine → Mine → Type 0
StopsOrVisits place may m m′ = StopsSlowing m m′ ⊎ ((mid : Mine) × SlowsAll m mid × IsVisit place may mid m′)

-- why there was no room for a request: memory ran out, or a step met a book that was full
abbrev pub LacksRoomForWish : (StepRecord → Type 0) → ℕ → Mode → Bool → SpaceError → SessionView → SessionView → Type 0
LacksRoomForWish Full place mode may why a b =
    ((why ≡ cause.OutOfMemory) × LacksMemory place mode (StopsOrVisits place may) a b) ⊎ ((why ≡ cause.Full) × FullForWish Full place mode may a b)
