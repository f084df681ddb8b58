-- The kill of a session's wait: at most two steps. If it killed the wait, one of them met the wait with this number unsettled; if not, one met another
-- word. If the space has no such session, no step is made.
use Rattle.std.specs.Prelude.{◌≡◌, ℕ, true, false}
use Rattle.mdl_steps.specs.declared.wait_word.Loss.TheVariants as loss
use Rattle.mdl_shared.specs.FirstWords.{Answer, Has_killed, Lists, MakesNoStep, MeetsOther, MeetsWait, SessionView, Settles, SettlesNothing, ShowsStep, StaysFor, StepSpec, is_within, lost_state, no_steps, unsettled_state, wait_in}

-- the wait is settled if this call did it, and no other
abbrev pub settled : ℕ → ℕ → Answer → Lists → SessionView → SessionView → Type 0
settled target number (Has_killed true) l a b = Settles target number (lost_state loss.Killed) a.me b.me
settled target number _ l a b = SettlesNothing a.me b.me

-- which steps were made, and what they met. They were two at most, which gave no latch back and raised no flag
abbrev pub met : ℕ → ℕ → Answer → Lists → SessionView → SessionView → Type 0
met target number (Has_killed true) l a b =
    (is_within a.sessions target ≡ true) × ShowsStep a b (MeetsWait a.table.slots target number unsettled_state) × StaysFor 2 a.me b.me
met target number (Has_killed false) l a b =
    (is_within a.sessions target ≡ false → MakesNoStep a b)
    × (is_within a.sessions target ≡ true → ShowsStep a b (MeetsOther a.table.slots target (wait_in number unsettled_state)) × StaysFor 2 a.me b.me)
met target number _ l a b = ⊥

-- the call. If the wait is the session's own, it may learn that it is settled
abbrev pub kill : ℕ → ℕ → StepSpec
kill target number = record no_steps { told = λ a b. Unit {0}; settled = settled target number; met = met target number }
