-- What an entry in a session's list of steps (`View.log`) tells of the table's system. Each step of a session adds one entry to its list: the kind of the
-- step, its deeds, its word, the value found there, and the records of latches. They tell which event the step is, or that nothing happens. So the
-- entries that a call adds to the list, of which its contract speaks, are the events of the call.
use Rattle.std.specs.Prelude.{◌≡◌, ◌≢◌, ◌⊎◌, ℕ, ◌+◌, ◌<◌, List, [], ◌∷◌, ◌++◌, length, Some, Contains}
use Rattle.mdl_steps.specs.declared.step_kind.StepKind.TheVariants.{EndWait, GrantFast, GrantWait, LowerFlags, OpenWait, PutLatch, ReleaseFast, SettleWait, WriteVersion}
use Rattle.mdl_steps_laws.specs.FirstWords.{Ask, BeginWait, Brings, Change, ChangeDefinition, EndGrantedWait, EndLostWait, Gain, Grant, GrantWaiter, IsWholeChange, KeyName, LatchRecord, Loss, Rests, Rule, SettleLost, Slot, State, StepKind, StepRecord, TableChange, Ticket, Unsettled, VersionedDefinition, View, WaitState, code_of, get_elem?, granted_state, held_at, latch_word, lock_word, lost_as, lost_state, of_lock, some, standing_after, version_word, wait_number, wait_state, wait_word}
use Rattle.mdl_steps_laws.specs.EachStep.{BringsDeedsAt, Under}
use Rattle.mdl_steps_laws.specs.StepEvents.{IsOf}

-- ---- the event that an entry tells

-- the entry's word is the one that `word_of` gives for a place. The session's deeds are one event under the place's key, or nothing if there are none
abbrev pub TellsDeeds : State Slot View → State Slot View → ℕ → (ℕ → ℕ) → StepRecord → Type 0
TellsDeeds s t session word_of e = (place : ℕ) × (e.word ≡ word_of place) × BringsDeedsAt session place e.deeds s t

-- the session's only deed is a gain, and the ticket is granted under the key of the word's place
abbrev pub TellsFastGrant : State Slot View → State Slot View → ℕ → StepRecord → Type 0
TellsFastGrant s t session e =
    (place : ℕ) × (e.word ≡ lock_word place) × (x : Ticket) × (x.session ≡ session) × (e.deeds ≡ Gain x.number x.mode ∷ [])
    × Under s place (λ key. Brings (Grant (of_lock key x)) s t)

-- under a ticket of the session the definition of the place's key is changed. The version was the one found, and the entry's record of the latch has the
-- version and definition that the change leads to
abbrev pub TellsChange : State Slot View → State Slot View → ℕ → StepRecord → Type 0
TellsChange s t session e =
    (place : ℕ) × (e.word ≡ version_word place) × (h : LatchRecord) × (held_at place e.held ≡ Some h)
    × (change : Change) × (before : VersionedDefinition) × (before.version ≡ e.found) × (h.book.standing ≡ standing_after change before)
    × Under s place (λ key. (x : Ticket) × (x.session ≡ session) × Brings (ChangeDefinition (of_lock key x) change) s t)

-- the session's next wait begins under the key of a place. It is for the session's ticket in the waiting list of the entry's record of the latch
abbrev pub TellsBegin : State Slot View → State Slot View → ℕ → StepRecord → Type 0
TellsBegin s t session e =
    (place : ℕ) × (h : LatchRecord) × (held_at place e.held ≡ Some h) × (x : Ticket) × Contains h.book.waiting x × (x.session ≡ session)
    × Under s place (λ key. Brings (BeginWait key (record { ticket = x; wait = wait_number e.found + 1; state = Unsettled })) s t)

-- the wait found in the word, which is that of a session, is granted under the key of a place. Its ticket is the last one in the granted list of the
-- entry's record of the latch
abbrev pub TellsGrant : State Slot View → State Slot View → StepRecord → Type 0
TellsGrant s t e =
    (session : ℕ) × (e.word ≡ wait_word (length s.homes) session)
    × (place : ℕ) × (h : LatchRecord) × (held_at place e.held ≡ Some h)
    × (others : List Ticket) × (last : Ticket) × (h.book.granted ≡ others ++ last ∷ []) × (last.session ≡ session)
    × Under s place (λ key.
    (x : Ticket) × IsOf session last.number x × Brings (GrantWaiter key (record { ticket = x; wait = wait_number e.found; state = Unsettled })) s t)

-- the wait found in the word, which is that of a session, is lost in the way that the view's list of settled waits says from then on
abbrev pub TellsLoss : State Slot View → State Slot View → View → View → StepRecord → Type 0
TellsLoss s t v w e =
    (session : ℕ) × (e.word ≡ wait_word (length s.homes) session)
    × (how : Loss) × (w.settles ≡ v.settles ++ record { session = session; wait = wait_number e.found; state = lost_state how } ∷ [])
    × (key : KeyName) × (x : Ticket) × (x.session ≡ session)
    × Brings (SettleLost key (record { ticket = x; wait = wait_number e.found; state = Unsettled }) (lost_as how)) s t

-- the session's wait, which the word found says to be granted or lost, ends, and the session waits for nothing from then on. If the wait was granted, the
-- session holds its ticket
abbrev pub TellsEnd : State Slot View → State Slot View → View → StepRecord → Type 0
TellsEnd s t v e =
    (a : Ask) × (v.asks ≡ Some a)
    × (wait_state e.found ≡ granted_state → Brings (EndGrantedWait (record { session = v.number; wait = wait_number e.found; ticket = a.number })) s t)
    × (wait_state e.found ≢ granted_state → Under s a.place (λ key.
    let asked : Ticket = record { session = v.number; number = a.number; mode = a.mode } in
    (how : WaitState) × (code_of how ≡ wait_state e.found) × Brings (EndLostWait key (record { ticket = asked; wait = wait_number e.found; state = how })) s t))

-- the step of the entry did nothing to tickets of its session
abbrev pub HasNoDeeds : StepRecord → Type 0
HasNoDeeds e = e.deeds ≡ []

-- an entry of this kind tells this event, from one table to another. The session's view is `v` before and `w` afterwards. By an entry of a kind that isn't
-- named nothing happens
abbrev pub TellsBy : StepKind → State Slot View → State Slot View → View → View → StepRecord → Type 0
TellsBy PutLatch s t v w e = TellsDeeds s t v.number latch_word e
TellsBy (LowerFlags slow obtrusive) s t v w e = TellsDeeds s t v.number lock_word e
TellsBy WriteVersion s t v w e = HasNoDeeds e × TellsChange s t v.number e
TellsBy OpenWait s t v w e = HasNoDeeds e × TellsBegin s t v.number e
TellsBy GrantWait s t v w e = HasNoDeeds e × TellsGrant s t e
TellsBy SettleWait s t v w e = HasNoDeeds e × TellsLoss s t v w e
TellsBy EndWait s t v w e = HasNoDeeds e × TellsEnd s t v e
TellsBy GrantFast s t v w e = TellsFastGrant s t v.number e
TellsBy ReleaseFast s t v w e = TellsDeeds s t v.number lock_word e
TellsBy _ s t v w e = HasNoDeeds e × Rests s t

-- the entry tells the event from one table to another
abbrev pub TellsEvent : State Slot View → State Slot View → View → View → StepRecord → Type 0
TellsEvent s t v w e = TellsBy e.kind s t v w e

-- ---- one step

-- the session in this seat makes one step. Its list gains an entry, which tells the event of the step, and no other view changes
pub record MakesOneStep (s t : State Slot View) (seat : ℕ) (e : StepRecord) : Type 0 where
  pub old : View
  pub new : View
  pub before : get_elem? s.views seat ≡ some old
  pub after : get_elem? t.views seat ≡ some new
  pub log : new.log ≡ old.log ++ e ∷ []
  pub tells : TellsEvent s t old new e
  pub others : (j : ℕ) → j ≢ seat → get_elem? t.views j ≡ get_elem? s.views j

-- the entry that a list gains by a whole change tells the event of the change
abbrev pub EachEntryTellsItsEvent : Type 0
EachEntryTellsItsEvent =
    (s t : State Slot View) → Rule s → Rule t → (turn : TableChange s t) → IsWholeChange turn →
    (seat : ℕ) (v w : View) → get_elem? s.views seat ≡ some v → get_elem? t.views seat ≡ some w →
    (e : StepRecord) → w.log ≡ v.log ++ e ∷ [] → MakesOneStep s t seat e

-- each whole change adds one entry to one list, or it splits a seat off. Then no list gains an entry (the first seat's is handed to the new seat), and
-- nothing happens
abbrev pub EachTurnAddsOneEntry : Type 0
EachTurnAddsOneEntry =
    (s t : State Slot View) → Rule s → Rule t → (turn : TableChange s t) → IsWholeChange turn →
    ((seat : ℕ) × (e : StepRecord) × MakesOneStep s t seat e)
    ⊎ (Rests s t
    × ((seat : ℕ) (v : View) → 0 < seat → get_elem? s.views seat ≡ some v → get_elem? t.views seat ≡ some v)
    × ((v w : View) → get_elem? s.views 0 ≡ some v → get_elem? t.views 0 ≡ some w → w.log ≡ []))

-- ---- a whole call

-- these tables follow one another, each by a whole change, and the rule holds of each
abbrev pub AreTableChanges : State Slot View → List (State Slot View) → State Slot View → Type 0
AreTableChanges s [] t = s ≡ t
AreTableChanges s (x ∷ xs) t = Rule x × ((turn : TableChange s x) × IsWholeChange turn) × AreTableChanges x xs t

-- of these tables, which follow one another, the session in this seat makes as many steps as there are entries, in their order. By all other changes its view
-- stays as it is
abbrev pub AreItsSteps : ℕ → State Slot View → List (State Slot View) → List StepRecord → Type 0
AreItsSteps seat s [] made = made ≡ []
AreItsSteps seat s (x ∷ xs) made =
    ((e : StepRecord) × (later : List StepRecord) × (made ≡ e ∷ later) × MakesOneStep s x seat e × AreItsSteps seat x xs later)
    ⊎ ((get_elem? x.views seat ≡ get_elem? s.views seat) × AreItsSteps seat x xs made)

-- whatever all sessions do while the list of a session gains some entries, these are its steps, and each tells its event. (The first seat is no session's,
-- and hands its list on.)
abbrev pub EntriesAreSteps : Type 0
EntriesAreSteps =
    (s t : State Slot View) (between : List (State Slot View)) → Rule s → AreTableChanges s between t →
    (seat : ℕ) (v w : View) → 0 < seat → get_elem? s.views seat ≡ some v → get_elem? t.views seat ≡ some w →
    (made : List StepRecord) → w.log ≡ v.log ++ made → AreItsSteps seat s between made
