-- The specification of each call, and each aspect of it as a function of the call.
use Rattle.mdl_calls.specs.FirstWords.{Answer, Begin_wait, Bool, Call, CallSpec, Change_definition, Clone_ticket, Downgrade, DrawsBy, End_wait, Explains, Key_of, Kill, Knowledge, List_held, Merge, None, Numbers, Option, Poll_wait, Read_definition, Read_kept, Release, Resolve, Search, SessionLocks, Settle_timeout, Settled, Some, SpaceError, Tables_of, Try_now, Unpin, Upgrade_now, Wait_of, option_map, own_by, ticket_held, ℕ}
use Rattle.mdl_calls.specs.calls.BeginWait.{begin_wait}
use Rattle.mdl_calls.specs.calls.ChangeDefinition.{change_definition}
use Rattle.mdl_calls.specs.calls.CloneTicket.{clone_ticket}
use Rattle.mdl_calls.specs.calls.Downgrade.{downgrade}
use Rattle.mdl_calls.specs.calls.EndWait.{end_wait}
use Rattle.mdl_calls.specs.calls.KeyOf.{key_of}
use Rattle.mdl_calls.specs.calls.Kill.{kill}
use Rattle.mdl_calls.specs.calls.ListHeld.{list_held}
use Rattle.mdl_calls.specs.calls.Merge.{merge}
use Rattle.mdl_calls.specs.calls.PollWait.{poll_wait}
use Rattle.mdl_calls.specs.calls.ReadDefinition.{read_definition}
use Rattle.mdl_calls.specs.calls.ReadKept.{read_kept}
use Rattle.mdl_calls.specs.calls.Release.{release}
use Rattle.mdl_calls.specs.calls.Resolve.{resolve}
use Rattle.mdl_calls.specs.calls.Search.{search_deadlock}
use Rattle.mdl_calls.specs.calls.SettleTimeout.{settle_timeout}
use Rattle.mdl_calls.specs.calls.TablesOf.{tables_of}
use Rattle.mdl_calls.specs.calls.TryNow.{try_now}
use Rattle.mdl_calls.specs.calls.Unpin.{unpin}
use Rattle.mdl_calls.specs.calls.UpgradeNow.{upgrade_now}
use Rattle.mdl_calls.specs.calls.WaitOf.{wait_of}

-- the specification of a call
abbrev pub spec_of : Call → CallSpec
spec_of (Resolve who key) = resolve who key
spec_of (Try_now who place mode) = try_now who place mode
spec_of (Begin_wait who place mode) = begin_wait who place mode
spec_of (Search who) = search_deadlock who
spec_of (Poll_wait who) = poll_wait who
spec_of (Settle_timeout who) = settle_timeout who
spec_of (End_wait who) = end_wait who
spec_of (Wait_of target) = wait_of target
spec_of (Kill target number) = kill target number
spec_of (Release who id) = release who id
spec_of (Clone_ticket who id mode) = clone_ticket who id mode
spec_of (Upgrade_now who id mode) = upgrade_now who id mode
spec_of (Merge who old new) = merge who old new
spec_of (Downgrade who id mode) = downgrade who id mode
spec_of (Read_definition who id) = read_definition who id
spec_of (Change_definition who id change) = change_definition who id change
spec_of (Tables_of who schema) = tables_of who schema
spec_of (Key_of who place) = key_of who place
spec_of (Read_kept who id) = read_kept who id
spec_of (List_held who) = list_held who
spec_of (Unpin who place) = unpin who place

-- ---- who calls, and what it takes

-- the session that makes a call. Asking for a wait's number and killing a wait have no caller: any session may do that.
abbrev pub caller : Call → Option ℕ
caller call = (spec_of call).caller

-- whether a call may need memory. Releasing or downgrading a ticket, dropping a definition, giving up a pin, polling, timing out,
-- ending or killing a wait, and asking for a wait's number need none.
abbrev pub takes_memory : Call → Bool
takes_memory call = (spec_of call).takes_memory

-- whether a call reads with its session's cache
abbrev pub reads_with_cache : Call → Bool
reads_with_cache call = (spec_of call).reads_with_cache

-- ---- answers and refusals

-- whether a call can have this answer, by its form. Asking for a wait's number and killing a wait are never refused.
abbrev pub is_answer_of : Call → Answer → Bool
is_answer_of call answer = (spec_of call).answers answer

-- what must hold of what the caller has for a call not to be refused
abbrev pub IsClear : Knowledge → Call → SessionLocks → Type 0
IsClear knows call own = (spec_of call).clear knows own

-- which errors a call can be refused with, and what each says of what the caller has
abbrev pub IsCause : Knowledge → Call → SpaceError → SessionLocks → Type 0
IsCause knows call why own = (spec_of call).cause why knows own

-- what an answer says of what the caller has: if it is a refusal, its cause; otherwise what must hold for the call not to be refused (`IsClear`)
abbrev pub IsExplained : Knowledge → Call → Answer → SessionLocks → Type 0
IsExplained knows call answer own = Explains (spec_of call) knows answer own

-- ---- what the caller has

-- what the caller has after a call with this answer
abbrev pub own_after : Call → Answer → SessionLocks → SessionLocks
own_after call answer own = own_by ((spec_of call).effect answer) own

-- which numbers the caller gets by a call with this answer
abbrev pub Draws : Call → Answer → Numbers → Numbers → Type 0
Draws call answer before after = DrawsBy ((spec_of call).effect answer) before after

-- ---- the caller's wait

-- how the caller's wait is settled, if the answer says so
abbrev pub told : Call → Answer → Option Settled
told call answer = (spec_of call).told answer

-- the answer to polling, timing out or ending the caller's wait, if that is settled in this way. Of other calls this says nothing.
abbrev pub IsToldOf : Settled → Call → Answer → Type 0
IsToldOf how call answer = (spec_of call).told_of how answer

-- ---- reads and changes

-- the number of the ticket under which a call reads, if it does
abbrev pub read_under : Call → Option ℕ
read_under call = (spec_of call).reads_under

-- the place of a ticket of this number, if there is a number and such a ticket is held
abbrev pub place_under : Option ℕ → SessionLocks → Option ℕ
place_under None own = None
place_under (Some id) own = option_map (λ ticket. ticket.place) (ticket_held id own)

-- the place whose definition a call with this answer changed, if it changed one
abbrev pub redefined_place : Call → Answer → SessionLocks → Option ℕ
redefined_place call answer own = place_under ((spec_of call).redefines answer) own
