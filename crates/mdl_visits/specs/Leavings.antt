-- How a session leaves a place whose latch it holds: it gives the latch back, with what it did there.
use Rattle.std.specs.Prelude.{◌≡◌, ℕ, ◌∷◌, ◌++◌, ◌||◌, Bool, List, [], Some, is_some, true}
use Rattle.mdl_visits.specs.FirstWords.{Alter, AtItsTable, CameTo, Deed, Flagged, HasDone, HasLatched, HasStep, IsInside, IsPlace, IsStepOf, LatchRecord, LeavesBy, Lose, Mine, PutLatch, SeatState, SessionTicket, StepRecord, VersionedDefinition, View, Visits, VisitsOnce, all_booked, all_done, and_made, deeds_of, elsewhere, frees, get_elem?, held_at, latch_word, lock_word, noting_version, rest, some, ticket_of}
use Rattle.mdl_visits.specs.Grantings.{IsLowered, IsOrderlyLatch, StandsOnce, VisitsAndReschedules}

-- the session gave back the latch of a place, and the slot that it took last, after these deeds. Steps were made that did just these, and nothing else
-- changed
abbrev pub Leaves : ℕ → List Deed → Mine → Mine → Type 0
Leaves place ds m m′ = (made : List StepRecord) × (m′ ≡ and_made made (record (all_done place ds m.0) { latches = elsewhere place m }, rest m.1)) × (deeds_of made ≡ ds)

-- the last step that was made gave back the latch of a place, and the steps before it gave no latch back and raised no flag
abbrev pub PutsBack : ℕ → Mine → Mine → Type 0
PutsBack place m m′ = (e : StepRecord) × LeavesBy m m′ e × (e.kind ≡ PutLatch) × (e.word ≡ latch_word place)

-- the session holds the latch of a place, and has done these deeds in its book. By them or before, it let a waiter in, or not (`freed`). The flags that the
-- tickets in the book need are up, and each session waits there at most once
pub record HasWorked (place : ℕ) (ds : List Deed) (freed : Bool) (s : SeatState) : Type 0 where
  pub is_place : IsPlace s.table place
  pub latch : LatchRecord
  pub done : HasDone place ds latch s.me
  pub flagged : Flagged (all_booked s.me.0.number ds latch.book) latch.slow latch.obtrusive
  pub once : StandsOnce latch.book.waiting
  pub freed_is : (latch.freed || frees ds) ≡ freed

-- the record of the latch of a place, after these deeds, tells that a waiter was let in if the record before or the deeds do
abbrev pub IsFreedBy : ℕ → List Deed → SeatState → LatchRecord → Type 0
IsFreedBy place ds s h = (before : LatchRecord) → held_at place s.me.0.latches ≡ Some before → h.freed ≡ (before.freed || frees ds)

-- the flags of a latched place that the book in hand doesn't need were lowered, after these deeds
pub record HasLowered (place : ℕ) (ds : List Deed) (s s′ : SeatState) : Type 0 where
  pub lowered : AtItsTable s s′ (IsLowered place ds)
  pub orderly : HasLatched place s′ (λ h. IsOrderlyLatch h × IsFreedBy place ds s h)

-- a step on the word of a place, which did these deeds, made while the session had the latches that it has here
abbrev pub DidUnder : ℕ → List Deed → SeatState → StepRecord → Type 0
DidUnder place ds s e = (e.word ≡ lock_word place) × (e.held ≡ s.me.0.latches) × (e.deeds ≡ ds)

-- the session, which came to a place and did these deeds there, gave its latch back. A step on the lock's word did them, and no latch was given back before
pub record LeavesAfter (place : ℕ) (ds : List Deed) (s s′ : SeatState) : Type 0 where
  pub visited : (before : SeatState) → AtItsTable before s (IsInside place) → AtItsTable before s′ (Visits place ds)
  pub step : HasStep s s′ (DidUnder place ds s)
  pub back : PutsBack place s.me s′.me
  pub once : VisitsOnce place s.me s′.me

-- likewise, once it had granted the waits there that could be granted
pub record LeavesRescheduled (place : ℕ) (ds : List Deed) (s s′ : SeatState) : Type 0 where
  pub rescheduled : (before : SeatState) → CameTo place before s → AtItsTable before s′ (VisitsAndReschedules before.table place ds)
  pub step : HasStep s s′ (DidUnder place ds s)
  pub once : VisitsOnce place s.me s′.me

-- the view once the session has read this version and definition at a place: it has noted the version under each ticket that it has there
abbrev pub knowing_read : ℕ → VersionedDefinition → View → View
knowing_read place standing v = record v {
  fast = noting_version place standing.version v.fast;
  slow = noting_version place standing.version v.slow;
  reads = v.reads ++ record { place = place; standing = standing } ∷ [];
}

-- a step on the word of a place, made while the session's ticket with this number was in the granted list, by the record of the latch
pub record MeetsOwn (place session number : ℕ) (e : StepRecord) : Type 0 where
  pub word : e.word ≡ lock_word place
  pub latch : LatchRecord
  pub held : held_at place e.held ≡ Some latch
  pub there : is_some (ticket_of session number latch.book.granted) ≡ true

-- a step that was made between the two did these deeds while the session's ticket with this number was in the granted list
abbrev pub DoesToOwn : ℕ → ℕ → List Deed → SeatState → SeatState → Type 0
DoesToOwn place number ds s s′ = (e : StepRecord) × IsStepOf s.me s′.me e × MeetsOwn place s.me.0.number number e × (e.deeds ≡ ds)

-- a step that was made between the two gave one ticket of the session the mode of another and released that one, while both were in the granted list
abbrev pub MergesOwn : SessionTicket → SessionTicket → SeatState → SeatState → Type 0
MergesOwn kept gone s s′ =
    (e : StepRecord) × IsStepOf s.me s′.me e × MeetsOwn kept.place s.me.0.number kept.number e × MeetsOwn kept.place s.me.0.number gone.number e
    × (e.deeds ≡ Alter kept.number gone.mode ∷ Lose gone.number ∷ [])

-- one of the tickets has this number and is at this place
abbrev pub HasTicket : ℕ → ℕ → List SessionTicket → Type 0
HasTicket place number tickets = (k : ℕ) × (t : SessionTicket) × (get_elem? tickets k ≡ some t) × (t.place ≡ place) × (t.number ≡ number)

-- the session visited a place and read this version and definition there. It knows that, and nothing else changed except its list of steps, which did no
-- deeds
abbrev pub Learns : ℕ → VersionedDefinition → Mine → Mine → Type 0
Learns place standing m m′ = (made : List StepRecord) × (m′ ≡ and_made made (knowing_read place standing m.0, m.1)) × (deeds_of made ≡ [])

-- likewise a definition with this version
abbrev pub LearnsWithVersion : ℕ → ℕ → Mine → Mine → Type 0
LearnsWithVersion place version m m′ = (standing : VersionedDefinition) × (standing.version ≡ version) × Learns place standing m m′

-- a step that gave the latch of a place back, whose record shows that this was the version and definition there
pub record MeetsStanding (place session : ℕ) (standing : VersionedDefinition) (e : StepRecord) : Type 0 where
  pub kind : e.kind ≡ PutLatch
  pub word : e.word ≡ latch_word place
  pub freed : e.found ≡ session
  pub latch : LatchRecord
  pub held : held_at place e.held ≡ Some latch
  pub stands : latch.book.standing ≡ standing
