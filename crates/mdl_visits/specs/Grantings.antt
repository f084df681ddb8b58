-- How a session reschedules at a place whose latch it holds: it grants the waits there that can be granted, in order of arrival.
use Rattle.std.specs.Prelude.{◌≡◌, ◌≢◌, ℕ, ◌==◌, not, Bool, true, false, List, [], ◌∷◌, ◌++◌, Contains, filter, Option, Some, None, ◌⊎◌}
pub use Rattle.mdl_steps.specs.Servings.{ArePassedOver, ForgetsNobody, IsLookedThrough, MeetsWaiter, OnlyMeets, WasSettled}
use Rattle.mdl_steps.specs.declared.slot.Slot.TheVariants as slot
use Rattle.mdl_visits.specs.FirstWords.{AreOfOthers, AtItsTable, BookView, CountsFastTickets, Deed, Each, GrantWait, HasLatched, Holds, IsSession, IsStepAfter, IsStepOf, LatchRecord, Lawful, LeavesBy, MayJoin, Mine, NotedCounts, Once, PutLatch, ReadWait, SeatState, Settlement, StaysHere, StepRecord, TableId, TellsLists, Ticket, VisitsOnce, all_done, before_first, deeds_of, elsewhere, flags_lowered, goes_first, granted_state, held_at, is_grantable, is_session, is_ticket, latch_word, lock_kind, position_or_len, rest, ticket_of, unsettled_state, wait_in, wait_word, with_admitted}

-- ---- what a step met

-- the tickets that arrived before one, in a list in order of arrival
abbrev pub ahead_of : ℕ → ℕ → List Ticket → List Ticket
ahead_of session number tickets = before_first (is_ticket session number) tickets

-- the last of a session's steps read the word of a wait, with this record of the latch of a place
abbrev pub HasJustMet : ℕ → ℕ → ℕ → LatchRecord → Mine → Type 0
HasJustMet slots place session h m =
    (log : List StepRecord) × (e : StepRecord) × (m.0.log ≡ log ++ e ∷ []) × (e.kind ≡ ReadWait) × (e.word ≡ wait_word slots session) × (held_at place e.held ≡ Some h)

-- a step that granted a wait of a session, which was unsettled. By the record of the latch just before it, the session's ticket waited there, was
-- compatible with all that was granted, and waited behind no other. The tickets that arrived before it were passed over, as the steps between the two
-- show, the last of which read the wait's word. Just after the step the ticket is granted
pub record MeetsGranted (id : TableId) (place : ℕ) (m m′ : Mine) (g : Settlement) (e : StepRecord) : Type 0 where
  pub state : g.state ≡ granted_state
  pub kind : e.kind ≡ GrantWait
  pub word : e.word ≡ wait_word id.slots g.session
  pub unsettled : e.found ≡ wait_in g.wait unsettled_state
  pub before : LatchRecord
  pub just : HasJustMet id.slots place g.session before m′
  pub wish : Ticket
  pub held : held_at place e.held ≡ Some (with_admitted g.session wish.number before)
  pub waits : ticket_of g.session wish.number before.book.waiting ≡ Some wish
  pub beside : MayJoin g.session before.book before.noted wish.mode
  pub first : goes_first (lock_kind before.book) before.book.waiting g.session wish.mode ≡ true
  pub earliest : IsLookedThrough id place before (ahead_of g.session wish.number before.book.waiting) m m′

-- ---- the record of the latch

-- each session waits at most once
pub record StandsOnce (waiting : List Ticket) : Type 0 where
  pub once : Once waiting
  pub single : (session first second : ℕ) (t u : Ticket) → ticket_of session first waiting ≡ Some t → ticket_of session second waiting ≡ Some u → first ≡ second

-- by the record of a latch each session waits at most once, and just those flags are up that the lists need
abbrev pub IsOrderlyLatch : LatchRecord → Type 0
IsOrderlyLatch h = StandsOnce h.book.waiting × TellsLists h.book h.slow h.obtrusive

-- by the record of a latch a session's ticket with this number waits, and can be granted
pub record IsGrantableTicket (session number : ℕ) (h : LatchRecord) : Type 0 where
  pub wish : Ticket
  pub waits : ticket_of session number h.book.waiting ≡ Some wish
  pub beside : MayJoin session h.book h.noted wish.mode
  pub first : goes_first (lock_kind h.book) h.book.waiting session wish.mode ≡ true

-- the same, and this is the index of the ticket in the waiting list
abbrev pub IsGrantableAt : ℕ → ℕ → ℕ → LatchRecord → Type 0
IsGrantableAt index session number h = IsGrantableTicket session number h × (position_or_len (is_ticket session number) h.book.waiting ≡ index)

-- a ticket was tried: the table has no such session, or a step met its wait settled
abbrev pub IsTried : TableId → ℕ → ℕ → ℕ → Mine → Mine → Type 0
IsTried id place session number m m′ = (IsSession id session → ⊥) ⊎ WasSettled id.slots place session number m m′

-- the result of a try to grant a ticket: it was tried and the record of the latch is unchanged, or it is granted
abbrev pub IsTriedOrGranted : TableId → ℕ → ℕ → ℕ → LatchRecord → Mine → Mine → Type 0
IsTriedOrGranted id place session number h m m′ =
    (IsTried id place session number m m′ × Holds place h h.book m′)
    ⊎ Holds place (with_admitted session number h) (with_admitted session number h).book m′

-- the result of the exchange that grants a wait: it met another word than this and the record of the latch is unchanged, or the ticket is granted
abbrev pub IsGrantedFrom : ℕ → ℕ → ℕ → ℕ → ℕ → LatchRecord → Mine → Mine → Type 0
IsGrantedFrom slots place session number word h m m′ =
    (((e : StepRecord) × IsStepOf m m′ e × MeetsWaiter slots place session number e × (e.found ≢ word)) × Holds place h h.book m′)
    ⊎ Holds place (with_admitted session number h) (with_admitted session number h).book m′

-- ---- waits are granted

-- if the session knew how its own wait was settled, it still knows that
abbrev pub StaysTold : Option ℕ → Option ℕ → Type 0
StaysTold told told′ = (state : ℕ) → told ≡ Some state → told′ ≡ Some state

-- each of these waits was granted by a step between the two, as the steps from a start to just before it show
abbrev pub AreGranted : TableId → ℕ → List Settlement → Mine → Mine → Mine → Type 0
AreGranted id place grants start m m′ =
    Each (λ g. (e : StepRecord) × (a : Mine) × IsStepAfter m a m′ e × MeetsGranted id place start a g e) grants

-- waits were granted under the latch of a place, which the session holds. Nothing else changed except the record of the latch, the book in hand, what the
-- session knows of its own wait, and its list of steps. These did no deeds, gave no latch back and raised no flag, and the session had the same record of
-- the directory's latch, or none. The waits that were passed over were met so from a start on
pub record GrantsWaits (id : TableId) (place : ℕ) (start m m′ : Mine) : Type 0 where
  pub latches : List LatchRecord
  pub told : Option ℕ
  pub grants : List Settlement
  pub made : List StepRecord
  pub book : BookView
  pub now : m′ ≡ (record m.0 { latches = latches; told = told; settles = m.0.settles ++ grants; log = m.0.log ++ made }, (place, slot.Place book) ∷ rest m.1)
  pub others : filter (λ h. not (h.place == place)) latches ≡ elsewhere place m
  pub stays : StaysTold m.0.told told
  pub unasked : m.0.asks ≡ None → told ≡ m.0.told
  pub granted : AreGranted id place grants start m m′
  pub did : deeds_of made ≡ []
  pub kept : Each (StaysHere m.0.directory) made

-- a ticket is granted or tried in its turn: from each start, if those that arrived before it were passed over since
abbrev pub ReschedulesInTurn : TableId → ℕ → ℕ → ℕ → Mine → Mine → Type 0
ReschedulesInTurn id place session number m m′ =
    (start : Mine) (h : LatchRecord) → Holds place h h.book m → IsLookedThrough id place h (ahead_of session number h.book.waiting) start m →
    GrantsWaits id place start m m′

-- ---- and the latch is given back

-- a step without deeds that gave the latch of a place back, by whose record no ticket waits there, or no waiter is forgotten
pub record MeetsRescheduled (id : TableId) (place who : ℕ) (m m′ : Mine) (e : StepRecord) : Type 0 where
  pub kind : e.kind ≡ PutLatch
  pub did : e.deeds ≡ []
  pub word : e.word ≡ latch_word place
  pub freed : e.found ≡ who
  pub latch : LatchRecord
  pub held : held_at place e.held ≡ Some latch
  pub served : (latch.book.waiting ≡ []) ⊎ ForgetsNobody id place latch m m′

-- the place was rescheduled between the two: waits were granted by steps between them, and no waiter was forgotten at the last step, which gave the latch
-- back. No step before it gave a latch back, so all was done under that latch. If the session knew how its own wait was settled, it still knows that. A
-- session without a wait learns of none
pub record HasRescheduled (id : TableId) (place : ℕ) (m m′ : Mine) : Type 0 where
  pub grants : List Settlement
  pub settles : m′.0.settles ≡ m.0.settles ++ grants
  pub granted : AreGranted id place grants m m m′
  pub served : (e : StepRecord) × LeavesBy m m′ e × MeetsRescheduled id place m.0.number m m′ e
  pub stays : StaysTold m.0.told m′.0.told
  pub unasked : m.0.asks ≡ None → m′.0.told ≡ m.0.told

-- the places that are owed a reschedule, without this one
abbrev pub all_but : ℕ → List ℕ → List ℕ
all_but place owes = filter (λ p. not (p == place)) owes

-- the session gave back the latch of a place, and the slot that it took last, after these deeds and after waits were granted there. It owes the place no
-- reschedule. Nothing else changed, and its steps did just these deeds
pub record ReschedulesAndLeaves (id : TableId) (place : ℕ) (ds : List Deed) (m m′ : Mine) : Type 0 where
  pub told : Option ℕ
  pub settles : List Settlement
  pub made : List StepRecord
  pub now : m′
      ≡ (record (all_done place ds m.0) { latches = elsewhere place m; told = told; owes = all_but place m.0.owes; settles = settles; log = m.0.log ++ made }, rest m.1)
  pub did : deeds_of made ≡ ds
  pub way : HasRescheduled id place m m′

-- the session visited a place, did these deeds there, and granted waits. It owes the place no reschedule, has the latches and the slots that it had, and
-- nothing else changed. Its steps did just these deeds
pub record VisitsAndReschedules (id : TableId) (place : ℕ) (ds : List Deed) (m m′ : Mine) : Type 0 where
  pub told : Option ℕ
  pub settles : List Settlement
  pub made : List StepRecord
  pub now : m′ ≡ (record (all_done place ds m.0) { told = told; owes = all_but place m.0.owes; settles = settles; log = m.0.log ++ made }, m.1)
  pub did : deeds_of made ≡ ds
  pub way : HasRescheduled id place m m′

-- likewise without deeds, and no latch was given back before
pub record LeavesServed (place : ℕ) (s s′ : SeatState) : Type 0 where
  pub left : AtItsTable s s′ (ReschedulesAndLeaves s.table place [])
  pub once : VisitsOnce place s.me s′.me

-- the waits at a latched place that can be granted were granted: no waiter is forgotten
pub record GrantsAll (place : ℕ) (s s′ : SeatState) : Type 0 where
  pub none : HasLatched place s′ (λ h. IsOrderlyLatch h × ForgetsNobody s.table place h s.me s′.me × (h.obtrusive ≡ true → h.exact ≡ true))
  pub granted : AtItsTable s s′ (GrantsWaits s.table place s.me)

-- flags of a place were lowered after these deeds, and nothing else changed
abbrev pub IsLowered : ℕ → List Deed → Mine → Mine → Type 0
IsLowered place ds m m′ = (found : ℕ) × (book : BookView) × (slow : Bool) × (obtrusive : Bool) × (m′ ≡ flags_lowered place ds found book slow obtrusive m)

-- ---- the laws of both

-- the law that a granted wait could be granted: whichever fast tickets there were by the rule of the table, no granted ticket of another session clashed
-- with it, and it waited behind no waiting one
abbrev pub GrantedWaitsWereGrantable : Type 0
GrantedWaitsWereGrantable =
    (id : TableId) (place : ℕ) (m m′ : Mine) (g : Settlement) (e : StepRecord) → MeetsGranted id place m m′ g e →
    (before : LatchRecord) × (wish : Ticket) × (held_at place e.held ≡ Some (with_admitted g.session wish.number before))
    × (ticket_of g.session wish.number before.book.waiting ≡ Some wish)
    × ((fast : List Ticket) → Lawful (lock_kind before.book) fast before.book.granted → NotedCounts (lock_kind before.book) fast before.obtrusive before.noted
    → is_grantable (lock_kind before.book) (fast ++ before.book.granted) before.book.waiting g.session wish.mode ≡ true)

-- the law that a wait that was passed over, before another was granted or as the latch was given back, was met settled or couldn't be granted: whichever
-- fast tickets of other sessions the word counted, it clashed with a granted ticket or had to wait behind a waiting one
abbrev pub WaitsLeftWerentGrantable : Type 0
WaitsLeftWerentGrantable =
    (id : TableId) (place word : ℕ) (h : LatchRecord) (tickets : List Ticket) (m m′ : Mine) → ArePassedOver id place word h tickets m m′ →
    (t : Ticket) → Contains tickets t → IsSession id t.session → is_session t.session ≡ true →
    WasSettled id.slots place t.session t.number m m′
    ⊎ ((fast : List Ticket) → CountsFastTickets (lock_kind h.book) word fast → AreOfOthers t.session fast
    → is_grantable (lock_kind h.book) (fast ++ h.book.granted) h.book.waiting t.session t.mode ≡ false)
