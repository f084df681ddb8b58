-- How a space is asked for a lock at a place, after MySQL 5.7: `MDL_context::try_acquire_lock_impl`, `clone_ticket` and
-- `acquire_lock` of sql/mdl.cc. That searches for deadlocks are cut off after a number of them is this project's own
-- choice.
use Rattle.std.specs.Prelude.{◌≡◌, ℕ, true, false, Option, Some, None, Result, Ok, Err}
use Rattle.mdl_key.specs.declared.mode.Mode.{Mode}
use Rattle.mdl_calls.specs.declared.answers.Held.{Held}
use Rattle.mdl_calls.specs.declared.space_error.SpaceError.{SpaceError}
use Rattle.mdl_calls.specs.declared.space_error.SpaceError.TheVariants.{WrongKind}
use Rattle.mdl_calls.specs.SessionLocks as owned
use Rattle.mdl_calls.specs.Words.{SessionLocks, Answer, Refused, Granted, Would_wait, Waits, Try_now, Begin_wait, Clone_ticket, Settle_timeout, End_wait, Release, Program, Give, Ask, ◌>>=◌, ◌>>◌, SearchEnd, Over, Cut_off, Failed, seeking, most_searches}
use Rattle.mdl_context.specs.declared.asking.AskResult.{AskResult}
use Rattle.mdl_context.specs.declared.asking.AskResult.TheVariants as got
use Rattle.mdl_context.specs.declared.request.Tried.{Tried}
use Rattle.mdl_context.specs.declared.request.Tried.TheVariants as try_as

-- the refusal that an answer is. It is only applied to refusals
abbrev pub refusal_answered : Answer → SpaceError
refusal_answered (Refused refusal) = refusal
refusal_answered _ = WrongKind

-- the rest of giving up a wait, once its end is answered: a ticket that it gained is released
abbrev pub unwanted_end_answered : ℕ → Answer → Program (Unit {0})
unwanted_end_answered who (Granted id) = Ask (Release who id) (λ _. Give tt)
unwanted_end_answered who _ = Give tt

-- the session's wait is given up, unless it is settled already, and ended without a ticket
abbrev pub abandoning : ℕ → Program (Unit {0})
abandoning who = Ask (Settle_timeout who) (λ _. Ask (End_wait who) (unwanted_end_answered who))

-- the result of cloning a ticket, from what the space answered
abbrev pub copy_answered : Answer → Program (Result AskResult SpaceError)
copy_answered (Granted id) = Give (Ok (got.Granted id))
copy_answered answer = Give (Err (refusal_answered answer))

-- the result of the searches that follow the start of a wait. If a search was refused, the wait is given up
abbrev pub wish_sought : ℕ → ℕ → SearchEnd → Program (Result AskResult SpaceError)
wish_sought who number Over = Give (Ok (got.Waits number true))
wish_sought who number Cut_off = Give (Ok (got.Waits number false))
wish_sought who number (Failed refusal) = abandoning who >> Give (Err refusal)

-- a wait has begun, and the session searches for deadlocks
abbrev pub waiting_on : ℕ → ℕ → Program (Result AskResult SpaceError)
waiting_on who number = seeking most_searches who >>= wish_sought who number

-- the rest of a request once the space has answered it: if it begins a wait, the session searches for deadlocks
abbrev pub wish_answered : ℕ → Answer → Program (Result AskResult SpaceError)
wish_answered who (Granted id) = Give (Ok (got.Granted id))
wish_answered who (Waits number) = waiting_on who number
wish_answered who answer = Give (Err (refusal_answered answer))

-- a ticket is requested, and waited for if it can't be granted at once
abbrev pub waiting_at : ℕ → ℕ → Mode → Program (Result AskResult SpaceError)
waiting_at who place mode = Ask (Begin_wait who place mode) (wish_answered who)

-- the rest of a request once the space has answered whether it can be granted at once: if it can't, the session begins
-- to wait
abbrev pub try_answered : ℕ → ℕ → Mode → Answer → Program (Result AskResult SpaceError)
try_answered who place mode (Granted id) = Give (Ok (got.Granted id))
try_answered who place mode Would_wait = waiting_at who place mode
try_answered who place mode answer = Give (Err (refusal_answered answer))

-- a ticket is requested, at first without waiting: this call is where a space has its fast path
abbrev pub requesting_at : ℕ → ℕ → Mode → Program (Result AskResult SpaceError)
requesting_at who place mode = Ask (Try_now who place mode) (try_answered who place mode)

-- a given ticket is cloned. If there is none, a new one is requested
abbrev pub gaining_from : Option Held → ℕ → ℕ → Mode → Program (Result AskResult SpaceError)
gaining_from (Some ticket) who place mode = Ask (Clone_ticket who ticket.id mode) copy_answered
gaining_from None who place mode = requesting_at who place mode

-- the result of a request that doesn't wait, from what the space answered
abbrev pub tried_answered : Answer → Program (Result Tried SpaceError)
tried_answered (Granted id) = Give (Ok (try_as.Acquired id))
tried_answered Would_wait = Give (Ok try_as.WouldWait)
tried_answered answer = Give (Err (refusal_answered answer))

-- a given ticket is cloned. If there is none, a new one is requested, and not waited for
abbrev pub trying_from : Option Held → ℕ → ℕ → Mode → Program (Result Tried SpaceError)
trying_from (Some ticket) who place mode = Ask (Clone_ticket who ticket.id mode) tried_answered
trying_from None who place mode = Ask (Try_now who place mode) tried_answered

-- what the session has after a request for a lock at a place
abbrev pub own_got : ℕ → Mode → Result AskResult SpaceError → SessionLocks → SessionLocks
own_got place mode (Ok (got.Granted id)) own = owned.gaining id place mode own
own_got place mode (Ok (got.Waits number searched)) own = owned.waiting number place mode own
own_got place mode (Err refusal) own = own

-- what the session has after the searches that follow the start of a wait with this number: the wait, or after a
-- refusal none
abbrev pub OwnWaited : ℕ → Result AskResult SpaceError → SessionLocks → SessionLocks → Type 0
OwnWaited number (Ok (got.Granted id)) before after = ⊥
OwnWaited number (Ok (got.Waits n searched)) before after = (n ≡ number) × (after ≡ before)
OwnWaited number (Err refusal) before after = after ≡ owned.ending before

-- what the session has after a request that doesn't wait
abbrev pub own_tried : ℕ → Mode → Result Tried SpaceError → SessionLocks → SessionLocks
own_tried place mode (Ok (try_as.Acquired id)) own = owned.gaining id place mode own
own_tried place mode _ own = own
