-- No call of a context changes a definition.
use Rattle.std.proofs.Common.{ℕ, true, false, List, [], ◌∷◌, Option, Some, None, Result, Ok, Err}
use Rattle.std.specs.Prelude.{Bool, is_some}
use Rattle.mdl_key.specs.declared.mode.Mode.{Mode}
use Rattle.mdl_calls.specs.declared.answers.Held.{Held}
use Rattle.mdl_calls.specs.declared.space_error.SpaceError.{SpaceError}
use Rattle.mdl_calls.specs.declared.space_error.SpaceError.TheVariants.{NoWait}
use Rattle.mdl_calls.specs.Words.{Answer, At_place, Done, Granted, Upgraded, Would_wait, Waits, Pending, Is_settled, Lost, Call, Change_definition, Release, Upgrade_now, Downgrade, Settle_timeout, Unpin, Program, Give, Ask, Grow, ◌>>◌, EachCall, SearchEnd, Over, Cut_off, Failed, seeking, most_searches}
use Rattle.mdl_calls.proofs.FaithfulLemmas.{either, calls_bind}
use Rattle.mdl_calls.proofs.SeekingLemmas.{calls_seeking}
use Rattle.mdl_context.specs.declared.asking.AskResult.{AskResult}
use Rattle.mdl_context.specs.declared.asking.AskResult.TheVariants as got
use Rattle.mdl_context.specs.declared.context_error.ContextError.{ContextError}
use Rattle.mdl_context.specs.declared.context_error.ContextError.TheVariants.{Waiting, Space}
use Rattle.mdl_context.specs.declared.kept.Kept.{Kept}
use Rattle.mdl_context.specs.declared.request.Acquire.{Acquire}
use Rattle.mdl_context.specs.declared.request.Acquire.TheVariants.{Acquired}
use Rattle.mdl_context.specs.Wishes.{Wish}
use Rattle.mdl_context.specs.declared.request.Resume.{Resume}
use Rattle.mdl_context.specs.declared.request.Resume.TheVariants as resume_as
use Rattle.mdl_context.specs.declared.request.Tried.{Tried}
use Rattle.mdl_context.specs.Contexts.{ContextView, ticket_kept, without_tickets, place_known}
use Rattle.mdl_context.specs.Gains as gains
use Rattle.mdl_context.specs.Holdings.{awaited_upgrade, earliest, without_number}
use Rattle.mdl_context.specs.Releases as releases
use Rattle.mdl_context.specs.Requests as requests
use Rattle.mdl_context.specs.Requests.{Outcome}
use Rattle.mdl_context.specs.Tidying.{tidied, tidying, unneeded, unpinning_all}
use Rattle.mdl_context.specs.Upgrades as upgrades
use Rattle.mdl_context.specs.Waits as waits

-- a call that changes no definition
abbrev pub IsStill : Call → Type 0
IsStill (Change_definition who id change) = ⊥
IsStill _ = Unit {0}

-- all calls of a program are such
abbrev pub AreStill : {A : Type 0} → Program A → Type 0
AreStill program = EachCall IsStill program

-- ---- a wait that is given up, and searches

still-unwanted : (who : ℕ) (answer : Answer) → AreStill (gains.unwanted_end_answered who answer)
still-unwanted who (Granted id) = (tt, λ _. tt)
still-unwanted who _ = tt

-- a wait is ended that isn't wanted any more, and then this is done
still-abandoning : {A : Type 0} (who : ℕ) (later : Program A) → AreStill later → AreStill (gains.abandoning who >> later)
still-abandoning {A} who later made =
    calls_bind {A = Unit {0}} {B = A} IsStill (gains.abandoning who) (λ _. later) (tt, λ _. (tt, still-unwanted who)) (λ _. made)

still-seeking : (n who : ℕ) → AreStill (seeking n who)
still-seeking n who = calls_seeking IsStill who tt n

-- ---- places that are let go

still-unpinning : (who : ℕ) (places : List ℕ) → AreStill (unpinning_all who places)
still-unpinning who [] = tt
still-unpinning who (place ∷ places) = (tt, λ _. still-unpinning who places)

-- those where the context has nothing
pub still-tidying : {A : Type 0} (outcome : Outcome A) → AreStill (tidying outcome)
still-tidying {A} (reply, context) =
    calls_bind {A = Unit {0}} {B = Outcome A} IsStill (unpinning_all context.who (unneeded context)) (λ _. Give (reply, tidied context))
    (still-unpinning context.who (unneeded context)) (λ _. tt)

-- the one where a request got nothing
still-letting_go : {A : Type 0} (has_got : Result A ContextError → Bool) (place : ℕ) (context : ContextView) (outcome : Outcome A)
    → AreStill (requests.letting_go has_got place context outcome)
still-letting_go {A} has_got place context (reply, after) =
    either {A = Outcome A} AreStill (has_got reply) (Give (reply, after)) (Ask (Unpin context.who place) (λ _. Give (reply, context))) tt (tt, λ _. tt)

-- ---- wishes

still-copy : (who : ℕ) (answer : Answer) → AreStill (gains.copy_answered answer)
still-copy who (Granted id) = tt
still-copy who _ = tt

still-wish_sought : (who number : ℕ) (end : SearchEnd) → AreStill (gains.wish_sought who number end)
still-wish_sought who number Over = tt
still-wish_sought who number Cut_off = tt
still-wish_sought who number (Failed refusal) = still-abandoning {A = Result AskResult SpaceError} who (Give (Err refusal)) tt

still-wish : (who : ℕ) (answer : Answer) → AreStill (gains.wish_answered who answer)
still-wish who (Granted id) = tt
still-wish who (Waits number) =
    calls_bind {A = SearchEnd} {B = Result AskResult SpaceError} IsStill (seeking most_searches who) (gains.wish_sought who number)
    (still-seeking most_searches who) (still-wish_sought who number)
still-wish who _ = tt

still-try : (who place : ℕ) (mode : Mode) (answer : Answer) → AreStill (gains.try_answered who place mode answer)
still-try who place mode (Granted id) = tt
still-try who place mode Would_wait = (tt, still-wish who)
still-try who place mode _ = tt

still-gaining : (ticket : Option Held) (who place : ℕ) (mode : Mode) → AreStill (gains.gaining_from ticket who place mode)
still-gaining (Some ticket) who place mode = (tt, still-copy who)
still-gaining None who place mode = (tt, still-try who place mode)

pub still-reusing : (ticket : Option Held) (place : ℕ) (request : Wish) (context : ContextView) → AreStill (requests.reusing ticket place request context)
still-reusing (Some ticket) place request context = tt
still-reusing None place request context =
    let serving = earliest (requests.suffices place request) context.kept in (
      tt,
      calls_bind {A = Result AskResult SpaceError} {B = Outcome Acquire} IsStill (gains.gaining_from serving context.who place request.mode)
          (λ end. Give (requests.outcome_got place request context end)) (still-gaining serving context.who place request.mode) (λ _. tt),
    )

still-place : (request : Wish) (context : ContextView) (answer : Answer) → AreStill (requests.place_answered request context answer)
still-place request context (At_place place) =
    let after = requests.remembering request.key place context in
    calls_bind {A = Outcome Acquire} {B = Outcome Acquire} IsStill (Grow (requests.starved context) (requests.acquiring_at place request after))
    (requests.letting_go requests.got_lock place context)
    (tt, still-reusing (earliest (requests.is_reusable place request) after.kept) place request after)
    (still-letting_go {A = Acquire} requests.got_lock place context)
still-place request context _ = tt

pub still-finding : (place : Option ℕ) (request : Wish) (context : ContextView) → AreStill (requests.finding place request context)
still-finding (Some place) request context = still-reusing (earliest (requests.is_reusable place request) context.kept) place request context
still-finding None request context = (tt, still-place request context)

pub still-acquiring : (request : Wish) (context : ContextView) → EachCall IsStill (requests.acquiring request context)
still-acquiring request context =
    let place = place_known request.key context.known in
    either {A = Outcome Acquire} AreStill (is_some context.wait) (Give (Err Waiting, context)) (requests.finding place request context)
    tt (still-finding place request context)

-- ---- wishes without a wait

still-tried : (answer : Answer) → AreStill (gains.tried_answered answer)
still-tried (Granted id) = tt
still-tried Would_wait = tt
still-tried _ = tt

still-trying_from : (ticket : Option Held) (who place : ℕ) (mode : Mode) → AreStill (gains.trying_from ticket who place mode)
still-trying_from (Some ticket) who place mode = (tt, still-tried)
still-trying_from None who place mode = (tt, still-tried)

still-trying_again : (ticket : Option Held) (place : ℕ) (request : Wish) (context : ContextView)
    → AreStill (requests.trying_again ticket place request context)
still-trying_again (Some ticket) place request context = tt
still-trying_again None place request context =
    let serving = earliest (requests.suffices place request) context.kept in (
      tt,
      calls_bind {A = Result Tried SpaceError} {B = Outcome Tried} IsStill (gains.trying_from serving context.who place request.mode)
          (λ end. Give (requests.outcome_tried place request context end)) (still-trying_from serving context.who place request.mode) (λ _. tt),
    )

still-trying_placed : (request : Wish) (context : ContextView) (answer : Answer) → AreStill (requests.trying_placed request context answer)
still-trying_placed request context (At_place place) =
    let after = requests.remembering request.key place context in
    calls_bind {A = Outcome Tried} {B = Outcome Tried} IsStill (Grow (requests.starved context) (requests.trying_at place request after))
    (requests.letting_go requests.got_at_once place context)
    (tt, still-trying_again (earliest (requests.is_reusable place request) after.kept) place request after)
    (still-letting_go {A = Tried} requests.got_at_once place context)
still-trying_placed request context _ = tt

still-trying_found : (place : Option ℕ) (request : Wish) (context : ContextView) → AreStill (requests.trying_found place request context)
still-trying_found (Some place) request context =
    still-trying_again (earliest (requests.is_reusable place request) context.kept) place request context
still-trying_found None request context = (tt, still-trying_placed request context)

pub still-trying : (request : Wish) (context : ContextView) → EachCall IsStill (requests.trying request context)
still-trying request context =
    let place = place_known request.key context.known in
    either {A = Outcome Tried} AreStill (is_some context.wait) (Give (Err Waiting, context)) (requests.trying_found place request context)
    tt (still-trying_found place request context)

-- ---- merges

still-merge : (who new : ℕ) (answer : Answer) → AreStill (upgrades.merge_answered who new answer)
still-merge who new Done = tt
still-merge who new _ = (tt, λ _. tt)

pub still-merging : (who id new : ℕ) → AreStill (upgrades.merging_new who id new)
still-merging who id new = (tt, still-merge who new)

-- ---- waits

pub still-won : (upgrade : Option (ℕ × Mode)) (new : ℕ) (context : ContextView) → AreStill (waits.wait_won upgrade new context)
still-won None new context = tt
still-won (Some (id, mode)) new context =
    calls_bind {A = Result (Unit {0}) SpaceError} {B = Outcome Resume} IsStill (upgrades.merging_new context.who id new)
    (λ end. Give (upgrades.merged (resume_as.Acquired id) id mode (waits.without_wait context) end)) (still-merging context.who id new) (λ _. tt)

still-end : (context : ContextView) (answer : Answer) → AreStill (waits.end_answered context answer)
still-end context (Granted id) = still-won (awaited_upgrade context.wait) id context
still-end context (Lost how) = still-tidying {A = Resume} (Ok (resume_as.Lost how), waits.without_wait context)
still-end context _ = tt

pub still-ending : (context : ContextView) → AreStill (waits.ending_wait context)
still-ending context = (tt, still-end context)

still-poll : (context : ContextView) (answer : Answer) → AreStill (waits.poll_answered context answer)
still-poll context Pending = tt
still-poll context (Is_settled how) = still-ending context
still-poll context _ = tt

pub still-looking : (context : ContextView) → AreStill (waits.looking context)
still-looking context = (tt, still-poll context)

still-wait_sought : (context : ContextView) (end : SearchEnd) → AreStill (waits.wait_sought context end)
still-wait_sought context Over = still-looking (waits.with_searches_over context)
still-wait_sought context Cut_off = still-looking context
still-wait_sought context (Failed refusal) =
    let over : Outcome Resume = (Err (Space refusal), waits.without_wait context) in
    still-abandoning {A = Outcome Resume} context.who (tidying over) (still-tidying {A = Resume} over)

pub still-searching_on : (context : ContextView) → AreStill (waits.searching_on context)
still-searching_on context =
    calls_bind {A = SearchEnd} {B = Outcome Resume} IsStill (seeking most_searches context.who) (waits.wait_sought context)
    (still-seeking most_searches context.who) (still-wait_sought context)

still-cut_off : (context : ContextView) (answer : Answer) → AreStill (waits.cut_off_answered context answer)
still-cut_off context Pending = still-searching_on context
still-cut_off context (Is_settled how) = still-ending context
still-cut_off context _ = tt

still-going_on : (searched : Option Bool) (context : ContextView) → AreStill (waits.continuing_wait searched context)
still-going_on None context = tt
still-going_on (Some true) context = still-looking context
still-going_on (Some false) context = (tt, still-cut_off context)

pub still-resuming : (context : ContextView) → EachCall IsStill (waits.resuming context)
still-resuming context = still-going_on (waits.is_searched context.wait) context

pub still-giving_up_wait : (context : ContextView) → EachCall IsStill (waits.giving_up_wait context)
still-giving_up_wait context =
    either {A = Outcome Resume} AreStill (is_some context.wait) (Ask (Settle_timeout context.who) (λ _. waits.ending_wait context))
    (Give (Err (Space NoWait), context)) (tt, λ _. (tt, still-end context)) tt

-- ---- releases

pub still-all : (who : ℕ) (gone : List Kept) → AreStill (releases.releasing_all who gone)
still-all who [] = tt
still-all who (ticket ∷ tickets) = (tt, λ _. still-all who tickets)

pub still-giving_up : (gone : List Kept) (context : ContextView) → EachCall IsStill (releases.releasing_tickets gone context)
still-giving_up gone context =
    let left : ContextView = record context { kept = without_tickets gone context.kept } in
    calls_bind {A = Unit {0}} {B = Outcome (Unit {0})} IsStill (releases.releasing_all context.who gone) (λ _. tidying (Ok tt, left))
    (still-all context.who gone) (λ _. still-tidying (Ok tt, left))

pub still-unless : {A : Type 0} (fault : Option ContextError) (context : ContextView) (program : Program (Outcome A)) →
    EachCall IsStill program → EachCall IsStill (releases.unless fault context program)
still-unless (Some fault) context program made = tt
still-unless None context program made = made

pub still-releasing : (id : ℕ) (context : ContextView) → EachCall IsStill (releases.releasing id context)
still-releasing id context =
    let left : ContextView = record context { kept = without_number id context.kept } in
    still-unless (releases.release_fault id context) context (Ask (Release context.who id) (λ _. tidying (Ok tt, left))) (tt, λ _. still-tidying (Ok tt, left))

-- ---- other modes

still-waiting_at : (who place : ℕ) (mode : Mode) → AreStill (gains.waiting_at who place mode)
still-waiting_at who place mode = (tt, still-wish who)

still-second : (ticket : Kept) (mode : Mode) (context : ContextView) (end : Result AskResult SpaceError) → AreStill (upgrades.second_got ticket mode context end)
still-second ticket mode context (Ok (got.Granted new)) =
    calls_bind {A = Result (Unit {0}) SpaceError} {B = Outcome Acquire} IsStill (upgrades.merging_new context.who ticket.id new)
    (λ end. Give (upgrades.merged (Acquired ticket.id) ticket.id mode context end)) (still-merging context.who ticket.id new) (λ _. tt)
still-second ticket mode context (Ok (got.Waits number searched)) = tt
still-second ticket mode context (Err refusal) = tt

pub still-to_upgrade : (ticket : Kept) (mode : Mode) (context : ContextView) → AreStill (upgrades.waiting_to_upgrade ticket mode context)
still-to_upgrade ticket mode context = (
  tt,
  calls_bind {A = Result AskResult SpaceError} {B = Outcome Acquire} IsStill (gains.waiting_at context.who ticket.place mode)
      (upgrades.second_got ticket mode context) (still-waiting_at context.who ticket.place mode) (still-second ticket mode context),
)

still-upgrade : (ticket : Kept) (mode : Mode) (context : ContextView) (answer : Answer) → AreStill (upgrades.upgrade_answered ticket mode context answer)
still-upgrade ticket mode context Upgraded = tt
still-upgrade ticket mode context Would_wait = still-to_upgrade ticket mode context
still-upgrade ticket mode context _ = tt

still-upgrading_ticket : (ticket : Option Kept) (mode : Mode) (context : ContextView) → AreStill (upgrades.upgrading_ticket ticket mode context)
still-upgrading_ticket None mode context = tt
still-upgrading_ticket (Some ticket) mode context =
    still-unless {A = Acquire} (releases.waiting_fault context) context (Ask (Upgrade_now context.who ticket.id mode) (upgrades.upgrade_answered ticket mode context))
    (tt, still-upgrade ticket mode context)

pub still-upgrading : (id : ℕ) (mode : Mode) (context : ContextView) → EachCall IsStill (upgrades.upgrading id mode context)
still-upgrading id mode context = still-upgrading_ticket (ticket_kept id context.kept) mode context

still-downgrade : (id : ℕ) (mode : Mode) (context : ContextView) (answer : Answer) → AreStill (upgrades.downgrade_answered id mode context answer)
still-downgrade id mode context Done = tt
still-downgrade id mode context _ = tt

pub still-downgrading : (id : ℕ) (mode : Mode) (context : ContextView) → EachCall IsStill (upgrades.downgrading id mode context)
still-downgrading id mode context =
    still-unless {A = Unit {0}} (releases.release_fault id context) context (Ask (Downgrade context.who id mode) (upgrades.downgrade_answered id mode context))
    (tt, still-downgrade id mode context)
