-- Calls about a wait of the session are answered, and a settled wait can be ended.
use Rattle.std.proofs.Common.{◌≡◌, ℕ, true, Some, Result, Ok, Err, refl, rules}
use Rattle.std.specs.Prelude.{IsOk}
use Rattle.mdl_calls.specs.declared.answers.Poll.{Poll}
use Rattle.mdl_calls.specs.declared.answers.Settled.{Settled}
use Rattle.mdl_calls.specs.declared.answers.Settled.TheVariants as settled_as
use Rattle.mdl_calls.specs.declared.answers.TimedOut.{TimedOut}
use Rattle.mdl_calls.specs.declared.answers.TimedOut.TheVariants.{ByThisCall, Already}
use Rattle.mdl_calls.specs.declared.answers.Ended.{Ended}
use Rattle.mdl_calls.specs.declared.space_error.SpaceError.{SpaceError}
use Rattle.mdl_calls.specs.declared.space_error.SpaceError.TheVariants.{NoWait}
use Rattle.mdl_calls.specs.Words.{polled, timed_out, ended, Poll_wait, Settle_timeout, Knowledge, IsCause, IsExplained, SessionLocks, is_waiting, told, IsEndOf}

poll-refused : (knows : Knowledge) (who : ℕ) (refusal : SpaceError) (own : SessionLocks) → IsCause knows (Poll_wait who) refusal own → is_waiting own ≡ true → ⊥
poll-refused knows who NoWait own cause waits = cc
poll-refused knows who _ own cause waits = absurd cause

-- a wait can be looked after
pub is_ok-polled : (knows : Knowledge) (who : ℕ) (r : Result Poll SpaceError) (own : SessionLocks) → IsExplained knows (Poll_wait who) (polled r) own → is_waiting own ≡ true → IsOk r
is_ok-polled knows who (Ok x) own told waits = search rules
is_ok-polled knows who (Err e) own told waits = absurd (poll-refused knows who e own told waits)

settle-refused : (knows : Knowledge) (who : ℕ) (refusal : SpaceError) (own : SessionLocks) → IsCause knows (Settle_timeout who) refusal own → is_waiting own ≡ true → ⊥
settle-refused knows who NoWait own cause waits = cc
settle-refused knows who _ own cause waits = absurd cause

-- patience with a wait can be lost
pub is_ok-timed_out : (knows : Knowledge) (who : ℕ) (r : Result TimedOut SpaceError) (own : SessionLocks) → IsExplained knows (Settle_timeout who) (timed_out r) own → is_waiting own ≡ true → IsOk r
is_ok-timed_out knows who (Ok x) own told waits = search rules
is_ok-timed_out knows who (Err e) own told waits = absurd (settle-refused knows who e own told waits)

-- and then it is told how the wait is settled
pub told-timed_out : (who : ℕ) (end : TimedOut) → (how : Settled) × (told (Settle_timeout who) (timed_out (Ok end)) ≡ Some how)
told-timed_out who ByThisCall = (settled_as.Timeout, refl)
told-timed_out who (Already how) = (how, refl)

-- a settled wait is ended
pub is_ok-ended : (how : Settled) (r : Result Ended SpaceError) → IsEndOf how (ended r) → IsOk r
is_ok-ended how (Ok x) end = search rules
is_ok-ended settled_as.Granted (Err e) end = cc
is_ok-ended settled_as.Victim (Err e) end = cc
is_ok-ended settled_as.Timeout (Err e) end = cc
is_ok-ended settled_as.Killed (Err e) end = cc
