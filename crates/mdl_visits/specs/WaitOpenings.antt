-- How a session begins to wait at a place.
use Rattle.std.specs.Prelude.{◌≡◌, ℕ, ◌+◌, ◌^◌, ◌<◌, true, List, [], ◌∷◌, ◌++◌, Some, None}
use Rattle.mdl_visits.specs.FirstWords.{AreStepsOf, AtItsTable, LatchRecord, MeetsBlocked, Mine, Mode, OpenWait, SeatState, StepRecord, Ticket, View, and_made, asking, deeds_of, held_at, idle_state, wait_in, wait_word}

-- the view of a session that has begun to wait for a mode at a place, and has yet to search for a deadlock
abbrev pub view_awaiting : ℕ → Mode → View → View
view_awaiting place mode v = record v { asks = Some (asking place mode v); next = v.next + 1; waits = v.waits + 1; told = None; searches = true }

-- a session without fast tickets may begin a wait with this number for a ticket with this number: both are its next numbers
pub record IsNewWait (number wait : ℕ) (v : View) : Type 0 where
  pub unfast : v.fast ≡ []
  pub is_next : number ≡ v.next
  pub counts : (wait ≡ v.waits + 1) × (wait < 2 ^ 60)

-- the session visited a place and began to wait for a mode there. Nothing else changed, and its steps did no deeds
pub record Opens (place : ℕ) (mode : Mode) (m m′ : Mine) : Type 0 where
  pub made : List StepRecord
  pub now : m′ ≡ and_made made (view_awaiting place mode m.0, m.1)
  pub did : deeds_of made ≡ []

-- the step that opened a session's wait, after `waits` others: the wait's word was idle, and by the record of the latch the ticket with this number is the
-- last waiting one
pub record MeetsOpening (slots place session waits number : ℕ) (mode : Mode) (e : StepRecord) : Type 0 where
  pub kind : e.kind ≡ OpenWait
  pub word : e.word ≡ wait_word slots session
  pub idle : e.found ≡ wait_in waits idle_state
  pub latch : LatchRecord
  pub held : held_at place e.held ≡ Some latch
  pub before : List Ticket
  pub last : latch.book.waiting ≡ before ++ record { session = session; number = number; mode = mode } ∷ []

-- the session began to wait for a mode at a place, with a ticket with this number: a step shows that its request couldn't be granted, and the next step
-- opened the wait
abbrev pub SeatBeginsWait : ℕ → Mode → ℕ → SeatState → SeatState → Type 0
SeatBeginsWait place mode number s s′ =
    AtItsTable s s′ (Opens place mode)
    × ((e f : StepRecord) × AreStepsOf s.me s′.me e f × MeetsBlocked place s.me.0.number mode e × MeetsOpening s.table.slots place s.me.0.number s.me.0.waits number mode f)
