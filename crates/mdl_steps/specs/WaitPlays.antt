-- What a session knows after each kind of step on a wait word.
use Rattle.std.specs.Prelude.{◌≡◌, ◌≢◌, ℕ, ◌+◌, ◌==◌, ◌&&◌, true, if◌then◌else◌, List, ◌++◌, ◌∷◌, [], Option, Some, None}
use Rattle.mdl_steps.specs.FirstWords.{Ask, LatchRecord, Mode, SessionTicket, Slot, Step, StepKind, Ticket, View, WaitOk, admitting, cancelling, enqueueing, granted_state, idle_state, is_settled, note_at, option_map, option_to_list, unsettled_state, wait_state, wait_word, waiter_of}
pub use Rattle.mdl_steps.specs.WaitStates.{wait_in}
use Rattle.mdl_steps.specs.Plays.{Mine, logged, changed}
use Rattle.mdl_steps.specs.declared.step_kind.StepKind.TheVariants as step

-- the view after the session met a wait word. If that is its own and settled, the session knows its state from then on
abbrev pub meeting : ℕ → ℕ → View → View
meeting session word v = record v { told = if session == v.number && is_settled (wait_state word) then Some (wait_state word) else v.told }

-- the wait word of a session was met by a step of this kind, and wasn't changed
abbrev pub met_wait_by : StepKind → ℕ → ℕ → ℕ → Mine → Mine
met_wait_by kind slots session found m = (logged kind [] (wait_word slots session) found m.0.latches (meeting session found m.0), m.1)

-- the wait word of a session was read
abbrev pub met_wait : ℕ → ℕ → ℕ → Mine → Mine
met_wait = met_wait_by step.ReadWait

-- the wait word of a session was to be exchanged, but wasn't the one that the step expected
abbrev pub missed_wait : ℕ → ℕ → ℕ → Mine → Mine
missed_wait = met_wait_by step.MissWait

-- if this is the session's own wait word, it is as the rule says: it has the number of the session's last wait, is idle exactly if the session
-- doesn't wait, and still has the state in which the session met it settled
abbrev pub TellsOwn : ℕ → ℕ → ℕ → View → Type 0
TellsOwn slots session found v = session ≡ v.number → WaitOk slots found (waiter_of v)

-- ---- the record of the latch

-- the record with a ticket at the end of the book's waiting list
abbrev pub with_waiting : Ticket → LatchRecord → LatchRecord
with_waiting t h = record h { book = enqueueing t h.book }

-- the record with a session's waiting ticket moved to the end of the book's granted list
abbrev pub with_admitted : ℕ → ℕ → LatchRecord → LatchRecord
with_admitted session number h = record h { book = admitting session number h.book }

-- the record with a session's waiting ticket removed from the book, which may let others in
abbrev pub with_cancelled : ℕ → ℕ → LatchRecord → LatchRecord
with_cancelled session number h = record h { book = cancelling session number h.book; freed = true }

-- ---- the view

-- the session's request for a mode at a place, with the number of its next ticket
abbrev pub asking : ℕ → Mode → View → Ask
asking place mode v = record { number = v.next; place = place; mode = mode }

-- the ticket of that request, as a book has it
abbrev pub asked_ticket : Mode → View → Ticket
asked_ticket mode v = record { session = v.number; number = v.next; mode = mode }

-- a wait was opened at a place. Its ticket is the last one in the record's waiting list. The word was idle before
abbrev pub opened : ℕ → ℕ → Mode → Mine → Mine
opened slots place mode m =
    let v = changed place (with_waiting (asked_ticket mode m.0)) m.0 in
    let waits = record v { asks = Some (asking place mode m.0); next = m.0.next + 1; waits = m.0.waits + 1; told = None; searches = true } in
    (logged step.OpenWait [] (wait_word slots m.0.number) (wait_in m.0.waits idle_state) v.latches waits, m.1)

-- the view with one more wait of a session in the list of those that the view's session settled
abbrev pub settling : ℕ → ℕ → ℕ → View → View
settling session number state v = record v { settles = v.settles ++ record { session = session; wait = number; state = state } ∷ [] }

-- a wait of a session was settled as lost, in this state
abbrev pub settled_lost : ℕ → ℕ → ℕ → ℕ → Mine → Mine
settled_lost slots session number state m =
    (logged step.SettleWait [] (wait_word slots session) (wait_in number unsettled_state) m.0.latches (settling session number state (meeting session (wait_in number state) m.0)), m.1)

-- a wait of a session was granted. Its ticket is the last one in the record's granted list
abbrev pub settled_granted : ℕ → ℕ → ℕ → ℕ → ℕ → Mine → Mine
settled_granted slots place session ticket number m =
    let v = changed place (with_admitted session ticket) m.0 in
    (logged step.GrantWait [] (wait_word slots session) (wait_in number unsettled_state) v.latches (settling session number granted_state (meeting session (wait_in number granted_state) v)), m.1)

-- the ticket that the session waited for, as the session has it from then on. Its note is that of the first slow ticket that the session had there
abbrev pub taken_over : Option Ask → List SessionTicket → List SessionTicket
taken_over asks slow =
    option_to_list (option_map (λ a. record { number = a.number; place = a.place; mode = a.mode; noted = note_at a.place slow }) asks)

-- a granted wait was ended: the session has its ticket
abbrev pub ended_granted : ℕ → Mine → Mine
ended_granted slots m =
    let v = record m.0 { asks = None; told = None; slow = m.0.slow ++ taken_over m.0.asks m.0.slow } in
    (logged step.EndWait [] (wait_word slots m.0.number) (wait_in m.0.waits granted_state) m.0.latches v, m.1)

-- a lost wait was ended: its ticket is removed from the record's waiting list
abbrev pub ended_lost : ℕ → ℕ → ℕ → ℕ → Mine → Mine
ended_lost slots place ticket state m =
    let v = record (changed place (with_cancelled m.0.number ticket) m.0) { asks = None; told = None } in
    (logged step.EndWait [] (wait_word slots m.0.number) (wait_in m.0.waits state) m.0.latches v, m.1)

-- ---- the kinds of step: the session keeps its number

-- the wait word of a session is read
abbrev pub reads_wait : Step Slot → Mine → ℕ → Mine → Type 0
reads_wait st m found m′ =
    (m′.0.number ≡ m.0.number)
    × ((session : ℕ) → st.word ≡ wait_word st.slots session → TellsOwn st.slots session found m.0 × (m′ ≡ met_wait st.slots session found m))

-- a wait of a session is settled as lost if it was unsettled, otherwise its word is only met
abbrev pub settles_lost : Step Slot → Mine → ℕ → Mine → Type 0
settles_lost st m found m′ =
    (m′.0.number ≡ m.0.number)
    × ((session number state : ℕ) → st.word ≡ wait_word st.slots session → st.first ≡ wait_in number unsettled_state → st.second ≡ wait_in number state →
    TellsOwn st.slots session found m.0
    × (found ≡ wait_in number unsettled_state → m′ ≡ settled_lost st.slots session number state m)
    × (found ≢ wait_in number unsettled_state → m′ ≡ missed_wait st.slots session found m))

-- a wait of a session is granted, under the latch of its place, if it was unsettled, otherwise its word is only met
abbrev pub settles_granted : ℕ → ℕ → Step Slot → Mine → ℕ → Mine → Type 0
settles_granted place ticket st m found m′ =
    (m′.0.number ≡ m.0.number)
    × ((session number : ℕ) → st.word ≡ wait_word st.slots session → st.first ≡ wait_in number unsettled_state →
    TellsOwn st.slots session found m.0
    × (found ≡ wait_in number unsettled_state → m′ ≡ settled_granted st.slots place session ticket number m)
    × (found ≢ wait_in number unsettled_state → m′ ≡ missed_wait st.slots session found m))

-- a wait is opened under the latch of its place
abbrev pub opens_wait : ℕ → Mode → Step Slot → Mine → ℕ → Mine → Type 0
opens_wait place mode st m found m′ =
    (m′.0.number ≡ m.0.number) × (st.word ≡ wait_word st.slots m.0.number → st.first ≡ wait_in (m.0.waits + 1) unsettled_state → m′ ≡ opened st.slots place mode m)

-- a granted wait is ended
abbrev pub ends_granted : Step Slot → Mine → ℕ → Mine → Type 0
ends_granted st m found m′ =
    (m′.0.number ≡ m.0.number) × (st.word ≡ wait_word st.slots m.0.number → m′ ≡ ended_granted st.slots m)

-- a lost wait is ended under the latch of its place
abbrev pub ends_lost : Step Slot → Mine → ℕ → Mine → Type 0
ends_lost st m found m′ =
    (m′.0.number ≡ m.0.number)
    × ((a : Ask) (state : ℕ) → st.word ≡ wait_word st.slots m.0.number → m.0.asks ≡ Some a → m.0.told ≡ Some state →
    m′ ≡ ended_lost st.slots a.place a.number state m)
