-- A visit of a session to a place: the session takes the latch there, does its work, and gives the latch back. What it met there is in its list of steps.
use Rattle.std.specs.Prelude.{◌≡◌, ℕ, ◌≤◌, ◌==◌, not, Bool, true, false, List, [], ◌∷◌, ◌++◌, filter, Option, Some, None, ◌⊎◌, Result, MatchOption, MatchResult, if◌then◌else◌}
pub use Rattle.mdl_steps.specs.Servings.{IsStepOf}
use Rattle.mdl_book.specs.declared.book_error.BookError.TheVariants as fault
use Rattle.mdl_steps.specs.declared.slot.Slot.TheVariants as slot
use Rattle.mdl_steps.specs.declared.table_seat.Latched.{Latched}
use Rattle.mdl_visits.specs.Prelude.{AreOfOthers, AtItsTable, BookError, BookView, CountsFastTickets, Deed, Each, Holds, IsDirectory, IsFresh, IsPlace, IsRising, Keys, Kind, KnownKey, LatchRecord, Lawful, MayJoin, Mine, Mode, NotedCounts, PutLatch, RaiseFlags, ReadWord, SeatState, StepKind, StepRecord, Ticket, View, all_done, can_be_granted, consulted, full_fault, get_elem?, goes_first, held_at, is_grantable, is_mode_of, is_obtrusive, kind_of, latch_word, latched, lock_kind, lock_word, noting, raised, some, ticket_count}

-- ---- what a session knows

-- the session has looked up a key whose place this is, of this kind
abbrev pub KnowsKind : View → ℕ → Kind → Type 0
KnowsKind v place kind = (i : ℕ) × (k : KnownKey) × (get_elem? v.known i ≡ some k) × (k.place ≡ place) × (kind_of k.key.namespace ≡ kind)

-- ---- steps

-- what a session has, with these steps added to its list
abbrev pub and_made : List StepRecord → Mine → Mine
and_made made m = (record m.0 { log = m.0.log ++ made }, m.1)

-- what the session did to its own tickets at these steps, in order
abbrev pub deeds_of : List StepRecord → List Deed
deeds_of [] = []
deeds_of (e ∷ more) = e.deeds ++ deeds_of more

-- at the steps that were made between the two the session did just these deeds
abbrev pub Does : List Deed → Mine → Mine → Type 0
Does ds m m′ = (made : List StepRecord) × (m′.0.log ≡ m.0.log ++ made) × (deeds_of made ≡ ds)

-- steps without deeds were made between the two, and nothing else changed
abbrev pub MakesSteps : Mine → Mine → Type 0
MakesSteps m m′ = (made : List StepRecord) × (m′ ≡ and_made made m) × (deeds_of made ≡ [])

-- whether a step of this kind gave a latch back
abbrev pub gives_back : StepKind → Bool
gives_back PutLatch = true
gives_back _ = false

-- whether a step of this kind raised flags
abbrev pub kind_raises_flags : StepKind → Bool
kind_raises_flags (RaiseFlags slow obtrusive) = true
kind_raises_flags _ = false

-- whether a step of this kind raised the flag OBTRUSIVE
abbrev pub raises_obtrusive : StepKind → Bool
raises_obtrusive (RaiseFlags slow obtrusive) = obtrusive
raises_obtrusive _ = false

-- a step that raised no flag, at which the session had this record of the directory's latch, or none
abbrev pub IsQuiet : Option Keys → StepRecord → Type 0
IsQuiet directory e = (e.directory ≡ directory) × (kind_raises_flags e.kind ≡ false)

-- each of these steps raised no flag, and at each the session had this record of the directory's latch, or none
abbrev pub AllQuiet : Option Keys → List StepRecord → Type 0
AllQuiet directory made = Each (IsQuiet directory) made

-- steps without deeds were made between the two, and nothing else changed. At each the session had the same record of the directory's latch as before, or
-- still none, and raised no flag
abbrev pub MakesQuietSteps : Mine → Mine → Type 0
MakesQuietSteps m m′ = (made : List StepRecord) × (m′ ≡ and_made made m) × (deeds_of made ≡ []) × AllQuiet m.0.directory made

-- a step at which the session stayed: it gave no latch back and raised no flag
abbrev pub StaysThere : StepRecord → Type 0
StaysThere e = (gives_back e.kind ≡ false) × (kind_raises_flags e.kind ≡ false)

-- likewise, and the session had this record of the directory's latch, or none
abbrev pub StaysHere : Option Keys → StepRecord → Type 0
StaysHere directory e = StaysThere e × (e.directory ≡ directory)

-- at each step that was made between the two the session had the same record of the directory's latch as before, or still none, and it raised no flag
abbrev pub StaysQuiet : Mine → Mine → Type 0
StaysQuiet m m′ = (made : List StepRecord) × (m′.0.log ≡ m.0.log ++ made) × AllQuiet m.0.directory made

-- the list of steps grew between the two
abbrev pub MakesMoreSteps : Mine → Mine → Type 0
MakesMoreSteps m m′ = (made : List StepRecord) × (m′.0.log ≡ m.0.log ++ made)

-- the list of steps grew by steps that gave no latch back and raised no flag
abbrev pub StaysOn : Mine → Mine → Type 0
StaysOn m m′ = (made : List StepRecord) × (m′.0.log ≡ m.0.log ++ made) × Each StaysThere made

-- a step within a visit: it gave no latch back, and raised the flag OBTRUSIVE only if it may. The session had this record of the directory's latch, or none
abbrev pub IsWithinVisit : Bool → Option Keys → StepRecord → Type 0
IsWithinVisit may directory e = (gives_back e.kind ≡ false) × (raises_obtrusive e.kind ≡ true → may ≡ true) × (e.directory ≡ directory)

-- the list of steps grew by steps within a visit. The session has the same record of the directory's latch as before, or still none
abbrev pub StaysWithin : Bool → Mine → Mine → Type 0
StaysWithin may m m′ =
    (made : List StepRecord) × (m′.0.log ≡ m.0.log ++ made) × Each (IsWithinVisit may m.0.directory) made × (m′.0.directory ≡ m.0.directory)

-- a step that was made between the two, with a state (`a`) whose list of steps is the one just before it
abbrev pub IsStepAfter : Mine → Mine → Mine → StepRecord → Type 0
IsStepAfter m a m′ e = MakesMoreSteps m a × (after : List StepRecord) × (m′.0.log ≡ a.0.log ++ e ∷ after)

-- the last step that was made between the two. The steps before it gave no latch back and raised no flag
abbrev pub LeavesBy : Mine → Mine → StepRecord → Type 0
LeavesBy m m′ e = (before : List StepRecord) × (m′.0.log ≡ (m.0.log ++ before) ++ e ∷ []) × Each StaysThere before

-- the session visited a place once: the last step that was made gave back the latch of the place, and no step before gave one back or, unless it may, raised
-- the flag OBTRUSIVE. At each step the session had the same record of the directory's latch as before, or still none. So it took no other latch in between
-- that it gave back, and gave no key a place
pub record IsVisit (place : ℕ) (may : Bool) (m m′ : Mine) : Type 0 where
  pub last : StepRecord
  pub before : List StepRecord
  pub made : m′.0.log ≡ (m.0.log ++ before) ++ last ∷ []
  pub within : Each (IsWithinVisit may m.0.directory) before
  pub kind : last.kind ≡ PutLatch
  pub word : last.word ≡ latch_word place
  pub alone : last.directory ≡ m.0.directory

-- likewise, and it closed no fast path: it raised no flag OBTRUSIVE
abbrev pub VisitsOnce : ℕ → Mine → Mine → Type 0
VisitsOnce place m m′ = IsVisit place false m m′

-- this holds of a step that was made between the two
abbrev pub HasStep : SeatState → SeatState → (StepRecord → Type 0) → Type 0
HasStep s s′ Shows = (e : StepRecord) × IsStepOf s.me s′.me e × Shows e

-- two steps, the second right after the first, that were made between the two
abbrev pub AreStepsOf : Mine → Mine → StepRecord → StepRecord → Type 0
AreStepsOf m m′ first second = (before : List StepRecord) × (after : List StepRecord) × (m′.0.log ≡ (m.0.log ++ before) ++ first ∷ second ∷ after)

-- ---- a visit

-- the session came to a place: it took the latch there and made steps without deeds, has a book of the place in hand, and nothing else changed
pub record IsInside (place : ℕ) (m m′ : Mine) : Type 0 where
  pub latches : List LatchRecord
  pub made : List StepRecord
  pub book : BookView
  pub now : m′ ≡ (record m.0 { latches = latches; log = m.0.log ++ made }, (place, slot.Place book) ∷ m.1)
  pub others : filter (λ h. not (h.place == place)) latches ≡ m.0.latches
  pub did : deeds_of made ≡ []

-- the session took the latch of a place, perhaps after it waited for it by steps without deeds, and has a fresh record of it
abbrev pub TakesLatch : ℕ → Mine → Mine → Type 0
TakesLatch place m m′ =
    (h : LatchRecord) × IsFresh place h m × Holds place h h.book m′
    × ((made : List StepRecord) × (m′ ≡ latched place h (and_made made m)) × AllQuiet m.0.directory made × (deeds_of made ≡ []))

-- likewise the session took the directory's latch, of which this record was made
abbrev pub TakesDirectory : SeatState → SeatState → Type 0
TakesDirectory s s′ =
    (made : List StepRecord) × (k : Keys) × IsDirectory s.table.slots k (and_made made s.me)
    × (s′ ≡ record s { me = consulted k (and_made made s.me) }) × AllQuiet s.me.0.directory made × (deeds_of made ≡ [])

-- the session may visit a place: the table has it, and each latch that the session holds is of a lower place
pub record MayVisit (place : ℕ) (s : SeatState) : Type 0 where
  pub is_place : IsPlace s.table place
  pub rising : IsRising place s.me

-- the session came to a place, whose latch it holds then. It gave no latch back, raised no flag and did no deed
abbrev pub CameTo : ℕ → SeatState → SeatState → Type 0
CameTo place s s′ = (s′.table ≡ s.table) × IsInside place s.me s′.me × StaysOn s.me s′.me

-- the session came to a place, and has a fresh record of its latch then. It took the latch, perhaps after it waited for it, and changed nothing else. `q` is
-- the latch's place
pub record Arrives (place : ℕ) (s : SeatState) (q : ℕ) (c : SeatState) : Type 0 where
  pub at : q ≡ place
  pub is_place : IsPlace c.table q
  pub latch : LatchRecord
  pub fresh : IsFresh place latch s.me
  pub holds : Holds q latch latch.book c.me
  pub came : CameTo q s c
  pub taken : TakesLatch place s.me c.me
  pub within : StaysWithin false s.me c.me

-- the session holds the latch of a place, has the book of the latch's record in hand, and this holds of the record
pub record HasLatched (place : ℕ) (s : SeatState) (IsSo : LatchRecord → Type 0) : Type 0 where
  pub is_place : IsPlace s.table place
  pub latch : LatchRecord
  pub holds : Holds place latch latch.book s.me
  pub is_so : IsSo latch

-- this holds of the record of a place's latch that the session holds
abbrev pub OfLatch : ℕ → SeatState → (LatchRecord → Type 0) → Type 0
OfLatch place s IsSo = (h : LatchRecord) → Holds place h h.book s.me → IsSo h

-- the session visited a place and did these deeds there. It has the latches and the slots that it had, and nothing else changed. Its steps did just these
-- deeds
pub record Visits (place : ℕ) (ds : List Deed) (m m′ : Mine) : Type 0 where
  pub made : List StepRecord
  pub now : m′ ≡ and_made made (all_done place ds m.0, m.1)
  pub did : deeds_of made ≡ ds

-- the session came to a place, raised the flag SLOW, and OBTRUSIVE if its request is obtrusive, and then read this word of the lock. `can` says whether a
-- request for the mode can be granted by it
pub record Enters (place : ℕ) (obtrusive : Bool) (word : ℕ) (mode : Mode) (can : Bool) (m m′ : Mine) : Type 0 where
  pub found : LatchRecord
  pub fresh : IsFresh place found m
  pub holds : Holds place (noting word (raised true obtrusive found)) found.book m′
  pub inside : IsInside place m m′
  pub read : (before : List StepRecord) × (m′.0.log ≡ (m.0.log ++ before) ++ record { kind = ReadWord; deeds = []; word = lock_word place; found = word; held = m′.0.latches; directory = m′.0.directory } ∷ [])
  pub told : can_be_granted (lock_kind found.book) found.book.granted found.book.waiting word m.0.number mode ≡ can

-- a session without a wait requests a mode at a place (its wish): it knows the place's key as one of this kind, which has the mode
pub record RequestsMode (place : ℕ) (kind : Kind) (mode : Mode) (v : View) : Type 0 where
  pub idle : v.asks ≡ None
  pub knows : KnowsKind v place kind
  pub is_mode : is_mode_of kind mode ≡ true

-- a session may visit a place with such a request
pub record MayRequest (place : ℕ) (kind : Kind) (mode : Mode) (s : SeatState) : Type 0 where
  pub at : MayVisit place s
  pub wish : RequestsMode place kind mode s.me.0

-- the session entered a place with such a request and read this word of the lock there. `q` is the place of the latch, and `can` says whether the request
-- can be granted
pub record HasEntered (place q word : ℕ) (mode : Mode) (can : Bool) (s s′ : SeatState) : Type 0 where
  pub at : q ≡ place
  pub is_place : IsPlace s′.table q
  pub kind : Kind
  pub wish : RequestsMode place kind mode s.me.0
  pub obtrusive : Bool
  pub asks : obtrusive ≡ is_obtrusive kind mode
  pub entered : AtItsTable s s′ (Enters place obtrusive word mode can)

-- ---- what a step met

-- a step that read the lock's word under the latch, whose record shows that the session's request for a mode can't be granted
pub record MeetsBlocked (place who : ℕ) (mode : Mode) (e : StepRecord) : Type 0 where
  pub kind : e.kind ≡ ReadWord
  pub word : e.word ≡ lock_word place
  pub latch : LatchRecord
  pub held : held_at place e.held ≡ Some latch
  pub blocked : can_be_granted (lock_kind latch.book) latch.book.granted latch.book.waiting e.found who mode ≡ false

-- a step that did this deed as it gave the latch back, whose record shows that the session's request for a mode could be granted: it is compatible with
-- all that was granted, and it waited behind no waiting ticket
pub record MeetsGrantable (place who : ℕ) (mode : Mode) (deed : Deed) (e : StepRecord) : Type 0 where
  pub kind : e.kind ≡ PutLatch
  pub did : e.deeds ≡ deed ∷ []
  pub word : e.word ≡ latch_word place
  pub freed : e.found ≡ who
  pub latch : LatchRecord
  pub held : held_at place e.held ≡ Some latch
  pub beside : MayJoin who latch.book latch.noted mode
  pub first : goes_first (lock_kind latch.book) latch.book.waiting who mode ≡ true

-- a step on the lock's word under the latch, whose record shows that the book has no room for one more ticket
pub record MeetsFull (place : ℕ) (e : StepRecord) : Type 0 where
  pub word : e.word ≡ lock_word place
  pub latch : LatchRecord
  pub held : held_at place e.held ≡ Some latch
  pub full : 65535 ≤ ticket_count latch.book

-- a step that read the lock's word under the latch, whose record shows that the book has no room for one more ticket, and whether the session's request
-- for a mode could be granted (`can`)
pub record MeetsFullWish (place who : ℕ) (mode : Mode) (can : Bool) (e : StepRecord) : Type 0 where
  pub kind : e.kind ≡ ReadWord
  pub word : e.word ≡ lock_word place
  pub latch : LatchRecord
  pub held : held_at place e.held ≡ Some latch
  pub full : 65535 ≤ ticket_count latch.book
  pub grantable : can_be_granted (lock_kind latch.book) latch.book.granted latch.book.waiting e.found who mode ≡ can

-- the session visited a place and did this deed there, and a step shows that its request could be granted
abbrev pub WasGranted : ℕ → Mode → Deed → SeatState → SeatState → Type 0
WasGranted place mode deed s s′ = AtItsTable s s′ (Visits place (deed ∷ [])) × HasStep s s′ (MeetsGrantable place s.me.0.number mode deed)

-- the session visited a place and did nothing there, and a step shows that its request couldn't be granted
abbrev pub WasBlocked : ℕ → Mode → SeatState → SeatState → Type 0
WasBlocked place mode s s′ = AtItsTable s s′ (Visits place []) × HasStep s s′ (MeetsBlocked place s.me.0.number mode)

-- why there was no room for a ticket: memory ran out, or a step shows that the book was full
abbrev pub LacksRoom : ℕ → BookError → SeatState → SeatState → Type 0
LacksRoom place cause s s′ = (cause ≡ fault.OutOfMemory) ⊎ ((cause ≡ fault.Full) × HasStep s s′ (MeetsFull place))

-- the session visited a place and did nothing there, for lack of room
abbrev pub WasRefused : ℕ → BookError → SeatState → SeatState → Type 0
WasRefused place cause s s′ = AtItsTable s s′ (Visits place []) × LacksRoom place cause s s′

-- the same of a request that could be granted, or couldn't
abbrev pub WasRefusedWish : ℕ → Mode → Bool → BookError → SeatState → SeatState → Type 0
WasRefusedWish place mode can cause s s′ =
    AtItsTable s s′ (Visits place [])
    × ((cause ≡ fault.OutOfMemory) ⊎ ((cause ≡ fault.Full) × HasStep s s′ (MeetsFullWish place s.me.0.number mode can)))

-- the result of a request with which a session entered a place: this holds (`Comes`), by its seat before that, or nothing changed for lack of room
abbrev pub EndsWish : {T : Type 0} → ℕ → ℕ → Mode → Bool → Result T BookError → (ℕ → SeatState → Type 0) → SeatState → SeatState → Type 0
EndsWish q word mode can result Comes s s′ =
    (place : ℕ) (before : SeatState) → HasEntered place q word mode can before s
    → MatchResult result (λ _. Comes place before) (λ cause. WasRefusedWish place mode can cause before s′)

-- why a request for a ticket isn't granted: by the book and the word it can't be, or the book is full
abbrev pub request_fault : Ticket → ℕ → BookView → Option BookError
request_fault ticket word book =
    if can_be_granted (lock_kind book) book.granted book.waiting word ticket.session ticket.mode then full_fault (ticket_count book) else Some fault.WouldConflict

-- the result of a request with which a session entered a place: it was granted by this deed, or it can't be granted, nothing changed and the latch is still
-- held, or it could be, and nothing changed for lack of room
abbrev pub EndsRequest : ℕ → ℕ → Mode → Deed → Result (Option Latched) BookError → SeatState → SeatState → Type 0
EndsRequest q word mode deed result s s′ =
    (place : ℕ) (can : Bool) (before : SeatState) → HasEntered place q word mode can before s
    → MatchResult result
    (λ back. MatchOption back (WasGranted place mode deed before s′) (λ latch. (can ≡ false) × (latch.place ≡ q) × (s′ ≡ s)))
    (λ cause. (can ≡ true) × WasRefusedWish place mode true cause before s′)

-- at the step the session's request wasn't grantable: whichever fast tickets of other sessions the word counted, by the book it clashed with a granted
-- ticket or had to wait behind a waiting one
abbrev pub WasNotGrantable : ℕ → ℕ → Mode → StepRecord → Type 0
WasNotGrantable place who mode e =
    (latch : LatchRecord) × (e.word ≡ lock_word place) × (held_at place e.held ≡ Some latch)
    × ((fast : List Ticket) → CountsFastTickets (lock_kind latch.book) e.found fast → AreOfOthers who fast
    → is_grantable (lock_kind latch.book) (fast ++ latch.book.granted) latch.book.waiting who mode ≡ false)

-- at the step, which did this deed as the latch was given back, the session's request was grantable: whichever fast tickets there were by the rule of the
-- table, no granted ticket of another session clashed with it, and it waited behind no waiting one
abbrev pub WasGrantable : ℕ → ℕ → Mode → Deed → StepRecord → Type 0
WasGrantable place who mode deed e =
    (latch : LatchRecord) × (e.deeds ≡ deed ∷ []) × (e.word ≡ latch_word place) × (e.found ≡ who) × (held_at place e.held ≡ Some latch)
    × ((fast : List Ticket) → Lawful (lock_kind latch.book) fast latch.book.granted → NotedCounts (lock_kind latch.book) fast latch.obtrusive latch.noted
    → is_grantable (lock_kind latch.book) (fast ++ latch.book.granted) latch.book.waiting who mode ≡ true)

-- the law that a blocked request wasn't grantable at the step that shows it
abbrev pub BlockedWishesWerentGrantable : Type 0
BlockedWishesWerentGrantable = (place who : ℕ) (mode : Mode) (e : StepRecord) → MeetsBlocked place who mode e → WasNotGrantable place who mode e

-- the law that a granted request was grantable at the step that granted it
abbrev pub GrantedWishesWereGrantable : Type 0
GrantedWishesWereGrantable = (place who : ℕ) (mode : Mode) (deed : Deed) (e : StepRecord) → MeetsGrantable place who mode deed e → WasGrantable place who mode deed e
