-- `poll_wait`: the state of the session's wait. It takes no memory, changes nothing, and is refused only if there is no wait.
use Rattle.std.specs.Prelude.{◌≡◌, ℕ, Bool, true, false, Option, Some, None}
use Rattle.mdl_calls.specs.FirstWords.{Answer, CallSpec, Is_settled, Pending, Refused, Settled, is_waiting, no_wait_cause, unchanged}

-- its answers
abbrev pub answers : Answer → Bool
answers (Refused why) = true
answers Pending = true
answers (Is_settled how) = true
answers _ = false

-- the wait was met as the answer says
abbrev pub met : Answer → Option (Option Settled)
met Pending = Some None
met (Is_settled how) = Some (Some how)
met _ = None

-- how the wait is settled from then on: as the answer says, if it was met settled
abbrev pub told : Answer → Option Settled
told (Is_settled how) = Some how
told _ = None

-- the call
abbrev pub poll_wait : ℕ → CallSpec
poll_wait who = record (unchanged who) {
  answers = answers;
  clear = λ knows own. is_waiting own ≡ true;
  cause = no_wait_cause;
  met = met;
  told = told;
  told_of = λ how answer. answer ≡ Is_settled how;
}
