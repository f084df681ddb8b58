-- The number of a session's wait: one step, which reads the word of that session's wait. If the space has no such session, no word is read.
use Rattle.std.specs.Prelude.{◌≡◌, ℕ, true, false, None}
use Rattle.mdl_shared.specs.FirstWords.{Answer, Has_wait, Lists, MakesNoStep, MeetsNumber, SessionView, ShowsStep, StaysFor, StepSpec, is_within, no_steps}

-- which step was made, and what it met. It gave no latch back and raised no flag
abbrev pub met : ℕ → Answer → Lists → SessionView → SessionView → Type 0
met target (Has_wait number) l a b =
    (is_within a.sessions target ≡ false → (number ≡ None) × MakesNoStep a b)
    × (is_within a.sessions target ≡ true → ShowsStep a b (MeetsNumber a.table.slots target number) × StaysFor 1 a.me b.me)
met target _ l a b = ⊥

-- the call. If the wait is the session's own, it may learn that it is settled
abbrev pub wait_of : ℕ → StepSpec
wait_of target = record no_steps { told = λ a b. Unit {0}; met = met target }
