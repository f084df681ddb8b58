-- The calls of a lock space, each with the specification of its steps: a session's calls promise it, also to callers that use the trait of lock spaces.
use Rattle.mdl_shared.specs.FirstWords.{Answer, Begin_wait, Call, Change_definition, Clone_ticket, Downgrade, End_wait, Key_of, Kill, List_held, Merge, Poll_wait, Read_definition, Read_kept, Release, Resolve, Search, SessionView, Settle_timeout, StepSpec, Tables_of, TakesSteps, Try_now, Unpin, Upgrade_now, Wait_of}
use Rattle.mdl_shared.specs.calls.BeginWait.{begin_wait}
use Rattle.mdl_shared.specs.calls.ChangeDefinition.{change_definition}
use Rattle.mdl_shared.specs.calls.CloneTicket.{clone_ticket}
use Rattle.mdl_shared.specs.calls.Downgrade.{downgrade}
use Rattle.mdl_shared.specs.calls.EndWait.{end_wait}
use Rattle.mdl_shared.specs.calls.KeyOf.{key_of}
use Rattle.mdl_shared.specs.calls.Kill.{kill}
use Rattle.mdl_shared.specs.calls.ListHeld.{list_held}
use Rattle.mdl_shared.specs.calls.Merge.{merge}
use Rattle.mdl_shared.specs.calls.PollWait.{poll_wait}
use Rattle.mdl_shared.specs.calls.ReadDefinition.{read_definition}
use Rattle.mdl_shared.specs.calls.ReadKept.{read_kept}
use Rattle.mdl_shared.specs.calls.Release.{release}
use Rattle.mdl_shared.specs.calls.Resolve.{resolve}
use Rattle.mdl_shared.specs.calls.Search.{search_deadlock}
use Rattle.mdl_shared.specs.calls.SettleTimeout.{settle_timeout}
use Rattle.mdl_shared.specs.calls.TablesOf.{tables_of}
use Rattle.mdl_shared.specs.calls.TryNow.{try_now}
use Rattle.mdl_shared.specs.calls.Unpin.{unpin}
use Rattle.mdl_shared.specs.calls.UpgradeNow.{upgrade_now}
use Rattle.mdl_shared.specs.calls.WaitOf.{wait_of}

-- a call by its steps
abbrev pub steps_of : Call → StepSpec
steps_of (Resolve who key) = resolve key
steps_of (Try_now who place mode) = try_now place mode
steps_of (Begin_wait who place mode) = begin_wait place mode
steps_of (Search who) = search_deadlock
steps_of (Poll_wait who) = poll_wait
steps_of (Settle_timeout who) = settle_timeout
steps_of (End_wait who) = end_wait
steps_of (Wait_of target) = wait_of target
steps_of (Kill target number) = kill target number
steps_of (Release who id) = release id
steps_of (Clone_ticket who id mode) = clone_ticket id mode
steps_of (Upgrade_now who id mode) = upgrade_now id mode
steps_of (Merge who old new) = merge old new
steps_of (Downgrade who id mode) = downgrade id mode
steps_of (Read_definition who id) = read_definition id
steps_of (Read_kept who id) = read_kept id
steps_of (Change_definition who id change) = change_definition id change
steps_of (Tables_of who schema) = tables_of schema
steps_of (Key_of who place) = key_of place
steps_of (List_held who) = list_held
steps_of (Unpin who place) = unpin place

-- what the steps of a call with this answer show
abbrev pub Shows : Call → Answer → SessionView → SessionView → Type 0
Shows call answer a b = TakesSteps (steps_of call) answer a b
