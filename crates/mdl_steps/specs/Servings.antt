-- How a session sees that no waiter at a place is forgotten: under the place's latch it meets each ticket that waits there as one that can't be granted, or
-- whose wait is settled. Who has seen that may give the latch back after something was freed.
use Rattle.std.specs.Prelude.{◌≡◌, ◌≢◌, ◌⊎◌, ℕ, true, false, List, [], ◌∷◌, ◌++◌, Contains, Some}
use Rattle.mdl_book.specs.SessionSets.{is_session}
use Rattle.mdl_steps.specs.FirstWords.{LatchRecord, StepKind, StepRecord, TableId, TellsLists, Ticket, can_be_granted, held_at, is_some, lock_kind, lock_word, ticket_of, unsettled_state, wait_in, wait_number, wait_word}
use Rattle.mdl_steps.specs.Plays.{Mine}
use Rattle.mdl_steps.specs.Seats.{Holds}
use Rattle.mdl_steps.specs.WaitSeats.{IsSession}
use Rattle.mdl_steps.specs.declared.step_kind.StepKind.TheVariants.{MissWait, ReadWait, ReadWord}

-- ---- what a step met

-- a step that was made between the two
abbrev pub IsStepOf : Mine → Mine → StepRecord → Type 0
IsStepOf m m′ e = (before : List StepRecord) × (after : List StepRecord) × (m′.0.log ≡ (m.0.log ++ before) ++ e ∷ after)

-- a step that only met a wait's word, as it read it or by an exchange that failed
abbrev pub OnlyMeets : StepKind → Type 0
OnlyMeets kind = (kind ≡ ReadWait) ⊎ (kind ≡ MissWait)

-- a step that only met the word of a session's wait, while the session's ticket with this number waited by the record of the place's latch. That wait
-- can't end as long as the ticket waits, so all words that are met so are of the same wait
pub record MeetsWaiter (slots place session number : ℕ) (e : StepRecord) : Type 0 where
  pub kind : OnlyMeets e.kind
  pub word : e.word ≡ wait_word slots session
  pub latch : LatchRecord
  pub held : held_at place e.held ≡ Some latch
  pub waits : is_some (ticket_of session number latch.book.waiting) ≡ true

-- two steps that met the word of a session's wait for a ticket, perhaps the same one: the first shows the number of the wait, and at the second the wait
-- isn't unsettled
pub record WasSettled (slots place session number : ℕ) (m m′ : Mine) : Type 0 where
  pub read : StepRecord
  pub read_then : IsStepOf m m′ read
  pub of_wait : MeetsWaiter slots place session number read
  pub met : StepRecord
  pub met_then : IsStepOf m m′ met
  pub of_same : MeetsWaiter slots place session number met
  pub settled : met.found ≢ wait_in (wait_number read.found) unsettled_state

-- ---- who is passed over

-- these tickets, which wait by the record of a latch, are passed over: each one of a session of the table can't be granted with this word of the
-- lock, or a step met its wait settled
abbrev pub ArePassedOver : TableId → ℕ → ℕ → LatchRecord → List Ticket → Mine → Mine → Type 0
ArePassedOver id place word h tickets m m′ =
    (t : Ticket) → Contains tickets t → IsSession id t.session → is_session t.session ≡ true →
    WasSettled id.slots place t.session t.number m m′
    ⊎ (can_be_granted (lock_kind h.book) h.book.granted h.book.waiting word t.session t.mode ≡ false)

-- a step read the lock's word, which was noted while the flag OBTRUSIVE was up, and with it these tickets are passed over
pub record IsLookedThrough (id : TableId) (place : ℕ) (latch : LatchRecord) (tickets : List Ticket) (m m′ : Mine) : Type 0 where
  pub read : StepRecord
  pub read_then : IsStepOf m m′ read
  pub kind : read.kind ≡ ReadWord
  pub of_lock : read.word ≡ lock_word place
  pub noted : latch.obtrusive ≡ true → latch.noted ≡ Some read.found
  pub passed : ArePassedOver id place read.found latch tickets m m′

-- no waiter is forgotten by the record of a latch: all that wait by it are passed over
abbrev pub ForgetsNobody : TableId → ℕ → LatchRecord → Mine → Mine → Type 0
ForgetsNobody id place latch m m′ = IsLookedThrough id place latch latch.book.waiting m m′

-- ---- the latch is given back

-- the seat may give the latch back, even if something was freed under it: the book in hand is that of the record, the flags are up exactly if the lists
-- need them, and nobody waits or no waiter is forgotten. If the flag OBTRUSIVE is up, that is by a noted word that counts exactly the fast tickets
pub record MayServe (table : TableId) (place : ℕ) (m : Mine) : Type 0 where
  pub latch : LatchRecord
  pub holds : Holds place latch latch.book m
  pub exact : TellsLists latch.book latch.slow latch.obtrusive
  pub start : Mine
  pub served : (latch.book.waiting ≡ []) ⊎ (ForgetsNobody table place latch start m × (latch.obtrusive ≡ true → latch.exact ≡ true))
