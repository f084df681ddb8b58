-- How a session's wait goes on and ends, after MySQL 5.7: `MDL_context::acquire_lock` of sql/mdl.cc, from its wait on. That a wait
-- is continued by separate calls is this project's own choice.
use Rattle.std.specs.Prelude.{◌≡◌, ◌⊎◌, ℕ, Bool, true, false, Option, Some, None, IsSome, is_some, Result, Ok, Err, if◌then◌else◌}
use Rattle.std.specs.Option.{option_map}
use Rattle.mdl_key.specs.declared.mode.Mode.{Mode}
use Rattle.mdl_calls.specs.declared.space_error.SpaceError.TheVariants.{NoWait}
use Rattle.mdl_calls.specs.Words.{Answer, Granted, Pending, Is_settled, Lost, Poll_wait, Settle_timeout, End_wait, Program, Give, Ask, ◌>>=◌, ◌>>◌, SearchEnd, Over, Cut_off, Failed, seeking, most_searches}
use Rattle.mdl_context.specs.declared.context_error.ContextError.{ContextError}
use Rattle.mdl_context.specs.declared.context_error.ContextError.TheVariants.{Space}
use Rattle.mdl_context.specs.declared.kept.Wanted.{Wanted}
use Rattle.mdl_context.specs.declared.request.Resume.{Resume}
use Rattle.mdl_context.specs.declared.request.Resume.TheVariants as resume_as
use Rattle.mdl_context.specs.Contexts.{ContextView}
use Rattle.mdl_context.specs.Gains.{refusal_answered, abandoning}
use Rattle.mdl_context.specs.Holdings.{with_wanted, search_over, awaited_upgrade}
use Rattle.mdl_context.specs.Requests.{Outcome}
use Rattle.mdl_context.specs.Tidying.{tidied, tidying}
use Rattle.mdl_context.specs.Upgrades.{merging_new, merged}

-- the context without a wait
abbrev pub without_wait : ContextView → ContextView
without_wait context = record context { wait = None }

-- the context with the ticket that it waited for, and without the wait
abbrev pub taking_up : ℕ → ContextView → ContextView
taking_up id context = record context { kept = with_wanted id context.wait context.kept; wait = None }

-- the rest of a wait once its ticket is granted: the ticket is kept, or merged into the one to upgrade
abbrev pub wait_won : Option (ℕ × Mode) → ℕ → ContextView → Program (Outcome Resume)
wait_won None new context = Give (Ok (resume_as.Acquired new), taking_up new context)
wait_won (Some (id, mode)) new context =
    merging_new context.who id new >>= (λ end. Give (merged (resume_as.Acquired id) id mode (without_wait context) end))

-- the outcome of ending a wait, from what the space answered. If the wait was lost, the context lets go of the places where it has nothing
abbrev pub end_answered : ContextView → Answer → Program (Outcome Resume)
end_answered context (Granted id) = wait_won (awaited_upgrade context.wait) id context
end_answered context (Lost how) = tidying (Ok (resume_as.Lost how), without_wait context)
end_answered context answer = Give (Err (Space (refusal_answered answer)), context)

-- the program that ends the session's wait
abbrev pub ending_wait : ContextView → Program (Outcome Resume)
ending_wait context = Ask (End_wait context.who) (end_answered context)

-- the rest of a look at a wait once the space has answered its state: a settled wait is ended
abbrev pub poll_answered : ContextView → Answer → Program (Outcome Resume)
poll_answered context Pending = Give (Ok resume_as.Waiting, context)
poll_answered context (Is_settled how) = ending_wait context
poll_answered context answer = Give (Err (Space (refusal_answered answer)), context)

-- the program that asks for the state of the wait, and ends it if it is settled
abbrev pub looking : ContextView → Program (Outcome Resume)
looking context = Ask (Poll_wait context.who) (poll_answered context)

-- the context, noting that the searches for its wait are over
abbrev pub with_searches_over : ContextView → ContextView
with_searches_over context = record context { wait = option_map search_over context.wait }

-- the rest of a wait after its searches for deadlocks: a look at it. If a search was refused, the wait is given up instead, and the context
-- lets go of the places where it has nothing
abbrev pub wait_sought : ContextView → SearchEnd → Program (Outcome Resume)
wait_sought context Over = looking (with_searches_over context)
wait_sought context Cut_off = looking context
wait_sought context (Failed refusal) = abandoning context.who >> tidying (Err (Space refusal), without_wait context)

-- the program that continues the searches for deadlocks
abbrev pub searching_on : ContextView → Program (Outcome Resume)
searching_on context = seeking most_searches context.who >>= wait_sought context

-- the rest of a look at a wait whose searches were cut off: if the wait isn't settled, the searches continue
abbrev pub cut_off_answered : ContextView → Answer → Program (Outcome Resume)
cut_off_answered context Pending = searching_on context
cut_off_answered context answer = poll_answered context answer

-- a wait goes on, if there is one, depending on whether its searches are over
abbrev pub continuing_wait : Option Bool → ContextView → Program (Outcome Resume)
continuing_wait None context = Give (Err (Space NoWait), context)
continuing_wait (Some true) context = looking context
continuing_wait (Some false) context = Ask (Poll_wait context.who) (cut_off_answered context)

-- whether the searches for the wait are over, if there is a wait
abbrev pub is_searched : Option Wanted → Option Bool
is_searched wait = option_map (λ wanted. wanted.searched) wait

-- the program of a call that goes on with a wait
abbrev pub resuming : ContextView → Program (Outcome Resume)
resuming context = continuing_wait (is_searched context.wait) context

-- the program that gives up a wait, unless it is settled already, and ends it
abbrev pub giving_up_wait : ContextView → Program (Outcome Resume)
giving_up_wait context =
    if is_some context.wait then Ask (Settle_timeout context.who) (λ _. ending_wait context) else Give (Err (Space NoWait), context)

-- a wait ended without a ticket: nothing else changed, but that the context may have let go of the places where it has nothing then
abbrev pub HasLostWait : ContextView → ContextView → Type 0
HasLostWait before after = (after ≡ without_wait before) ⊎ (after ≡ tidied (without_wait before))

-- why a call about a wait is refused: there is none
abbrev pub no_wait_fault : ContextView → Option ContextError
no_wait_fault context = if is_some context.wait then None else Some (Space NoWait)

-- there is a wait after it went on only if it isn't settled
abbrev pub WaitsOn : Result Resume ContextError → Option Wanted → Type 0
WaitsOn (Ok resume_as.Waiting) after = IsSome after
WaitsOn (Ok (resume_as.Acquired id)) after = after ≡ None
WaitsOn (Ok (resume_as.Lost how)) after = after ≡ None
WaitsOn (Err error) after = after ≡ None
