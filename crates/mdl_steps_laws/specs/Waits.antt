-- Waits whose words were met. A ticket's number names one wait for ever, so what a session has met of a wait stays so.
use Rattle.std.specs.Prelude.{◌≡◌, ◌≢◌, ℕ, ◌<◌, length, Some, Contains}
pub use Rattle.mdl_steps.specs.Servings.{MeetsWaiter, OnlyMeets}
use Rattle.mdl_steps_laws.specs.Prelude.{Ask, HasPlace, Reached, Slot, State, StepRecord, View, get_elem?, some, unsettled_state, wait_number, wait_state, waits}

-- the session of the ticket has a seat, and has given out the number. As long as it asks for that ticket, the wait has the number that was met, and isn't
-- unsettled if it was met so
abbrev pub StaysMet : State Slot View → ℕ → ℕ → StepRecord → Type 0
StaysMet s session number e =
    (j : ℕ) × (w : View) × (get_elem? s.views j ≡ some w) × (w.number ≡ session) × (number < w.next)
    × ((a : Ask) → w.asks ≡ Some a → a.number ≡ number →
    (wait_number e.found ≡ w.waits) × (wait_state e.found ≢ unsettled_state → wait_state (waits s session) ≢ unsettled_state))

-- so it is for each step in a session's list that met the word of a wait
abbrev pub MetWaitsStay : Type 0
MetWaitsStay =
    (s : State Slot View) → Reached s → (i : ℕ) (v : View) → get_elem? s.views i ≡ some v → (e : StepRecord) → Contains v.log e →
    (place session number : ℕ) → HasPlace s place → 0 < session → MeetsWaiter (length s.homes) place session number e →
    StaysMet s session number e
