-- `begin_wait`: a lock, or otherwise a wait for it. It is refused for the same reasons as `try_now`. It changes no held ticket, and learns and reads nothing.
use Rattle.mdl_calls.specs.FirstWords.{Answer, Begins, Bool, CallSpec, Effect, Gains, Granted, Keeps, MayAsk, Mode, Refused, Waits, false, true, unchanged, wish_cause, ℕ}

-- its answers
abbrev pub answers : Answer → Bool
answers (Refused why) = true
answers (Granted id) = true
answers (Waits number) = true
answers _ = false

-- a granted ticket is held; otherwise the wait begins
abbrev pub effect : ℕ → Mode → Answer → Effect
effect place mode (Granted id) = Gains id place mode
effect place mode (Waits number) = Begins number place mode
effect place mode _ = Keeps

-- the call
abbrev pub begin_wait : ℕ → ℕ → Mode → CallSpec
begin_wait who place mode = record (unchanged who) {
  takes_memory = true;
  answers = answers;
  clear = MayAsk place mode;
  cause = wish_cause place mode;
  effect = effect place mode;
}
