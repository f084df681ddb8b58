-- `settle_timeout`: the timeout of the session's wait, unless that is settled already. It takes no memory, and is refused only if there is no wait. It ends no
-- wait, and changes no ticket.
use Rattle.std.specs.Prelude.{◌≡◌, ℕ, Bool, true, false, Option, Some, None}
use Rattle.mdl_calls.specs.FirstWords.{Answer, CallSpec, Refused, Settled, Timed_out, is_waiting, no_wait_cause, unchanged}
use Rattle.mdl_calls.specs.declared.answers.Settled.TheVariants as settled_as
use Rattle.mdl_calls.specs.declared.answers.TimedOut.TheVariants.{ByThisCall, Already}

-- its answers
abbrev pub answers : Answer → Bool
answers (Refused why) = true
answers (Timed_out end) = true
answers _ = false

-- the wait was met unsettled, or settled in the way that the answer says
abbrev pub met : Answer → Option (Option Settled)
met (Timed_out ByThisCall) = Some None
met (Timed_out (Already how)) = Some (Some how)
met _ = None

-- it is settled now, as a timeout or as it was
abbrev pub told : Answer → Option Settled
told (Timed_out ByThisCall) = Some settled_as.Timeout
told (Timed_out (Already how)) = Some how
told _ = None

-- the call
abbrev pub settle_timeout : ℕ → CallSpec
settle_timeout who = record (unchanged who) {
  answers = answers;
  clear = λ knows own. is_waiting own ≡ true;
  cause = no_wait_cause;
  met = met;
  told = told;
  told_of = λ how answer. answer ≡ Timed_out (Already how);
}
