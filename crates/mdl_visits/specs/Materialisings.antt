-- How a session's fast tickets at a place become slow: they are granted in the book of the place, and the lock's word no longer counts them.
-- After MySQL 5.7: `MDL_context::materialize_fast_path_locks` of sql/mdl.cc.
use Rattle.std.specs.Prelude.{◌≡◌, ◌≢◌, ℕ, ◌+◌, ◌<◌, true, List, [], ◌++◌, map, Some, None, ◌⊎◌}
use Rattle.mdl_book.specs.declared.book_error.BookError.TheVariants as fault
use Rattle.mdl_visits.specs.FirstWords.{AtItsTable, BookError, BookView, Each, HasBookInHand, HasStep, LatchRecord, Materialise, Mine, SeatState, SessionTicket, StepRecord, Ticket, View, Visits, VisitsOnce, and_made, but_at, deeds_of, granting_all, held_at, interleaved, is_compatible, lock_kind, lock_word, moved, own_at, ticket_by, ticket_count, ticket_of, written}

-- ---- what the session has then

-- the view with the fast tickets at a place made slow, each among the others by its number
abbrev pub all_slow : ℕ → View → View
all_slow place v = record v { fast = but_at place v.fast; slow = interleaved v.slow (own_at place v.fast) }

-- the session's fast tickets at a place became slow, and nothing else changed except its list of steps, which did no deeds. It visited the place once, and
-- made no step if it had none there
pub record Materialises (place : ℕ) (m m′ : Mine) : Type 0 where
  pub made : List StepRecord
  pub now : m′ ≡ and_made made (all_slow place m.0, m.1)
  pub did : deeds_of made ≡ []
  pub once : own_at place m.0.fast ≢ [] → VisitsOnce place m m′
  pub none : own_at place m.0.fast ≡ [] → made ≡ []

-- the step by which the lock's word no longer counts these tickets: by the record of the latch they are granted in the book, after all others
pub record MeetsMaterialised (place : ℕ) (tickets : List Ticket) (e : StepRecord) : Type 0 where
  pub kind : e.kind ≡ Materialise
  pub word : e.word ≡ lock_word place
  pub latch : LatchRecord
  pub held : held_at place e.held ≡ Some latch
  pub before : List Ticket
  pub granted : latch.book.granted ≡ before ++ tickets

-- the session's fast tickets at a place became slow, and if there were any, a step shows it
abbrev pub WasMaterialised : ℕ → SeatState → SeatState → Type 0
WasMaterialised place s s′ =
    AtItsTable s s′ (Materialises place)
    × (own_at place s.me.0.fast ≢ [] → HasStep s s′ (MeetsMaterialised place (moved place s.me.0)))

-- a step on the lock's word under the latch, whose record shows that the book has no room for n more tickets
pub record MeetsFullFor (n place : ℕ) (e : StepRecord) : Type 0 where
  pub word : e.word ≡ lock_word place
  pub latch : LatchRecord
  pub held : held_at place e.held ≡ Some latch
  pub full : 65535 < ticket_count latch.book + n

-- why there was no room for n tickets: memory ran out, or a step shows that the book was too full for all of them
abbrev pub LacksRoomFor : ℕ → ℕ → BookError → SeatState → SeatState → Type 0
LacksRoomFor n place cause s s′ = (cause ≡ fault.OutOfMemory) ⊎ ((cause ≡ fault.Full) × HasStep s s′ (MeetsFullFor n place))

-- the session visited a place once and did nothing there, for lack of room for n tickets, at least one
abbrev pub WasRefusedFor : ℕ → ℕ → BookError → SeatState → SeatState → Type 0
WasRefusedFor n place cause s s′ = AtItsTable s s′ (Visits place []) × LacksRoomFor n place cause s s′ × VisitsOnce place s.me s′.me × (0 < n)

-- ---- the book in hand

-- the session has this book of a place in hand instead
abbrev pub with_book : ℕ → BookView → SeatState → SeatState
with_book place book s = record s { me = written place book s.me }

-- a book with these tickets of a session granted last
abbrev pub granting_own : ℕ → List SessionTicket → BookView → BookView
granting_own session tickets book = granting_all (map (ticket_by session) tickets) book

-- none of these tickets of a session is granted in a book
abbrev pub AreUngranted : ℕ → List SessionTicket → BookView → Type 0
AreUngranted session tickets book = Each (λ (t : SessionTicket). ticket_of session t.number book.granted ≡ None) tickets

-- the session has a book of a place in hand in which none of these tickets of its own is granted, and each is compatible with all that are
pub record CanStand (place : ℕ) (tickets : List SessionTicket) (book : BookView) (s : SeatState) : Type 0 where
  pub in_hand : HasBookInHand place book s
  pub ungranted : AreUngranted s.me.0.number tickets book
  pub beside : Each (λ (t : SessionTicket). is_compatible (lock_kind book) book.granted s.me.0.number t.mode ≡ true) tickets

-- this holds of the book of a place that the session has in hand, in which these tickets can be granted
abbrev pub OfBookFor : ℕ → List SessionTicket → SeatState → (BookView → Type 0) → Type 0
OfBookFor place tickets s IsSo = (book : BookView) → CanStand place tickets book s → IsSo book

-- the session has a book of a place in hand in which these tickets of its own are granted last, and only there
pub record Stand (place : ℕ) (tickets : List SessionTicket) (book : BookView) (s : SeatState) : Type 0 where
  pub in_hand : HasBookInHand place (granting_own s.me.0.number tickets book) s
  pub ungranted : AreUngranted s.me.0.number tickets book

-- why a book can't take n more tickets: memory ran out, or the book has no room for all of them
abbrev pub LacksRoomIn : BookView → ℕ → BookError → Type 0
LacksRoomIn book n cause = (cause ≡ fault.OutOfMemory) ⊎ ((cause ≡ fault.Full) × (65535 < ticket_count book + n))
