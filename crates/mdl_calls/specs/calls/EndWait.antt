-- `end_wait`: the end of the session's settled wait. If the wait was granted, the session now holds the ticket. It takes no memory, and is refused only if
-- there is no wait, or if the wait isn't settled and then goes on. No answer says that a granted wait was lost.
use Rattle.std.specs.Prelude.{◌≡◌, ℕ, Bool, true, false, Option, Some, None}
use Rattle.mdl_calls.specs.FirstWords.{Answer, CallSpec, Effect, Ends, Granted, Keeps, Knowledge, Lost, NoWait, Refused, SessionLocks, Settled, SpaceError, Unsettled, Wins, is_waiting, unchanged}
use Rattle.mdl_calls.specs.Waits.{IsEndOf}
use Rattle.mdl_calls.specs.declared.answers.Settled.TheVariants as settled_as

-- its answers
abbrev pub answers : Answer → Bool
answers (Refused why) = true
answers (Granted id) = true
answers (Lost settled_as.Granted) = false
answers (Lost how) = true
answers _ = false

-- why it is refused
abbrev pub cause : SpaceError → Knowledge → SessionLocks → Type 0
cause NoWait knows own = is_waiting own ≡ false
cause Unsettled knows own = is_waiting own ≡ true
cause _ knows own = ⊥

-- the wait ends, with its ticket or without
abbrev pub effect : Answer → Effect
effect (Granted id) = Wins id
effect (Lost how) = Ends
effect _ = Keeps

-- the wait was met as the answer says: unsettled, or settled in this way
abbrev pub met : Answer → Option (Option Settled)
met (Refused Unsettled) = Some None
met (Granted id) = Some (Some settled_as.Granted)
met (Lost how) = Some (Some how)
met _ = None

-- the call
abbrev pub end_wait : ℕ → CallSpec
end_wait who = record (unchanged who) {
  answers = answers;
  clear = λ knows own. is_waiting own ≡ true;
  cause = cause;
  effect = effect;
  met = met;
  told_of = IsEndOf;
}
