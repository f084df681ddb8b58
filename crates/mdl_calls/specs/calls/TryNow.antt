-- `try_now`: a lock, if it can be granted without waiting. It is refused if the session doesn't pin the place, or waits already, if the mode isn't one of the
-- key's kind, if there is no number or no room left for a ticket, or if memory runs out. It never begins a wait, changes no other ticket, and learns and reads
-- nothing.
use Rattle.mdl_calls.specs.FirstWords.{Answer, Bool, CallSpec, Effect, Gains, Granted, Keeps, MayAsk, Mode, Refused, Would_wait, false, true, unchanged, wish_cause, ℕ}

-- its answers
abbrev pub answers : Answer → Bool
answers (Refused why) = true
answers (Granted id) = true
answers Would_wait = true
answers _ = false

-- a granted ticket is held
abbrev pub effect : ℕ → Mode → Answer → Effect
effect place mode (Granted id) = Gains id place mode
effect place mode _ = Keeps

-- the call
abbrev pub try_now : ℕ → ℕ → Mode → CallSpec
try_now who place mode = record (unchanged who) {
  takes_memory = true;
  answers = answers;
  clear = MayAsk place mode;
  cause = wish_cause place mode;
  effect = effect place mode;
}
