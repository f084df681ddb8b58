-- A session's seat at the table, as contracts see it.
use Rattle.std.specs.Prelude.{◌≡◌, ℕ, ◌<◌, ◌≤◌, [], ◌∷◌}
use Rattle.mdl_steps.specs.FirstWords.{BookView, TableId, blank, enrol_word, no_numbers, rest, word_count}
use Rattle.mdl_steps.specs.Plays.{Mine, logged}
use Rattle.mdl_steps.specs.Seats.{IsSized}
use Rattle.mdl_steps.specs.WaitSeats.{IsSession}
use Rattle.mdl_steps.specs.declared.slot.Slot.TheVariants as slot
use Rattle.mdl_steps.specs.declared.step_kind.StepKind.TheVariants as step

-- the table of a seat, and what the session knows and has there. The session's number is that of its view
pub record SeatState : Type 0 where
  pub table : TableId
  pub me : Mine

-- what holds for each seat: it belongs to the table that it has, which has words for its slots, a directory, the session's wait word, and
-- words for this number of sessions. The session's number is that of its view
pub record IsSeat (sessions : ℕ) (table of : TableId) (number : ℕ) (me : Mine) : Type 0 where
  pub same : of ≡ table
  pub sized : IsSized table
  pub some : 0 < table.slots
  pub numbered : me.0.number ≡ number
  pub session : IsSession table number
  pub roomy : word_count table.slots sessions ≤ table.words

-- the seat is still at its table, and what the session knows and has there changed according to `Changes`
abbrev pub AtItsTable : SeatState → SeatState → (Mine → Mine → Type 0) → Type 0
AtItsTable s s′ Changes = (s′.table ≡ s.table) × Changes s.me s′.me

-- the session has this book of a place in hand
abbrev pub HasBookInHand : ℕ → BookView → SeatState → Type 0
HasBookInHand place book s = s.me.1 ≡ (place, slot.Place book) ∷ rest s.me.1

-- the session has some book of a place in hand
abbrev pub HoldsBook : ℕ → SeatState → Type 0
HoldsBook place s = (book : BookView) × HasBookInHand place book s

-- this holds of the book of a place that the session has in hand
abbrev pub OfBook : ℕ → SeatState → (BookView → Type 0) → Type 0
OfBook place s IsSo = (book : BookView) → HasBookInHand place book s → IsSo book

-- the seat of a new session: it has its number, the step that drew that, and nothing else
abbrev pub enrolled_seat : TableId → ℕ → SeatState
enrolled_seat table number =
    record { table = table; me = (logged step.Enrol [] (enrol_word table.slots) number [] (blank number no_numbers), []) }
