-- `downgrade`: a weaker mode of a held ticket. It takes no memory, and is refused only if no such ticket is held, or if it can't be downgraded so. It changes
-- no other ticket and no wait.
use Rattle.std.specs.Prelude.{◌≡◌, ℕ, Bool, true, false}
use Rattle.mdl_calls.specs.FirstWords.{Answer, CallSpec, Done, Effect, Keeps, Knowledge, Lowers, MayDowngrade, MayNotDowngrade, Mode, NotHeld, NotUpgradable, OfHeld, Refused, SessionLocks, SpaceError, holds, unchanged}

-- its answers
abbrev pub answers : Answer → Bool
answers (Refused why) = true
answers Done = true
answers _ = false

-- why it is refused
abbrev pub cause : ℕ → Mode → SpaceError → Knowledge → SessionLocks → Type 0
cause id mode NotHeld knows own = holds id own ≡ false
cause id mode NotUpgradable knows own = OfHeld id own (MayNotDowngrade knows mode)
cause id mode _ knows own = ⊥

-- the ticket gets the mode
abbrev pub effect : ℕ → Mode → Answer → Effect
effect id mode Done = Lowers id mode
effect id mode _ = Keeps

-- the call
abbrev pub downgrade : ℕ → ℕ → Mode → CallSpec
downgrade who id mode = record (unchanged who) {
  answers = answers;
  clear = λ knows own. OfHeld id own (MayDowngrade knows mode);
  cause = cause id mode;
  effect = effect id mode;
}
