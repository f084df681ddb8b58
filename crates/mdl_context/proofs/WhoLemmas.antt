-- Whatever a context does, it stays its session's.
use Rattle.std.proofs.Common.{◌≡◌, ℕ, true, false, List, Option, Some, None, Result, Ok, Err, refl}
use Rattle.std.specs.Prelude.{Bool, is_some}
use Rattle.mdl_key.specs.declared.mode.Mode.{Mode}
use Rattle.mdl_calls.specs.declared.answers.Held.{Held}
use Rattle.mdl_calls.specs.declared.space_error.SpaceError.{SpaceError}
use Rattle.mdl_calls.specs.declared.space_error.SpaceError.TheVariants.{NoWait}
use Rattle.mdl_calls.specs.Words.{Answer, At_place, Done, Granted, Upgraded, Would_wait, Pending, Is_settled, Lost, Release, Upgrade_now, Downgrade, Settle_timeout, Program, Give, Ask, Grow, Each, SearchEnd, Over, Cut_off, Failed, seeking, most_searches}
use Rattle.mdl_calls.proofs.FaithfulLemmas.{either, each_then}
use Rattle.mdl_context.specs.declared.asking.AskResult.{AskResult}
use Rattle.mdl_context.specs.declared.asking.AskResult.TheVariants as got
use Rattle.mdl_context.specs.declared.context_error.ContextError.{ContextError}
use Rattle.mdl_context.specs.declared.context_error.ContextError.TheVariants.{Waiting, Space}
use Rattle.mdl_context.specs.declared.kept.Kept.{Kept}
use Rattle.mdl_context.specs.declared.request.Acquire.{Acquire}
use Rattle.mdl_context.specs.declared.request.Acquire.TheVariants.{Acquired}
use Rattle.mdl_context.specs.declared.request.Resume.{Resume}
use Rattle.mdl_context.specs.declared.request.Resume.TheVariants as resume_as
use Rattle.mdl_context.specs.declared.request.Tried.{Tried}
use Rattle.mdl_context.specs.declared.request.Tried.TheVariants as try_as
use Rattle.mdl_context.specs.Contexts.{ContextView, ticket_kept, without_tickets, place_known}
use Rattle.mdl_context.specs.Gains as gains
use Rattle.mdl_context.specs.Holdings.{awaited_upgrade, earliest, without_number}
use Rattle.mdl_context.specs.Releases as releases
use Rattle.mdl_context.specs.Requests as requests
use Rattle.mdl_context.specs.Requests.{Outcome}
use Rattle.mdl_context.specs.Tidying.{tidying}
use Rattle.mdl_context.specs.Upgrades as upgrades
use Rattle.mdl_context.specs.Waits as waits
use Rattle.mdl_context.specs.Wishes.{Wish}
use Rattle.mdl_context.proofs.LookUpLemmas.{each_looked_up}
use Rattle.mdl_context.proofs.TidyLemmas.{each_tidying}

-- a call of a context leaves it this session's
abbrev pub IsOf : {A : Type 0} → ℕ → Outcome A → Type 0
IsOf who outcome = outcome.1.who ≡ who

-- and so do all replies of a program
abbrev pub StaysOf : {A : Type 0} → ℕ → Program (Outcome A) → Type 0
StaysOf who program = Each (IsOf who) program

-- ---- wishes

of_got : (place : ℕ) (request : Wish) (context : ContextView) (end : Result AskResult SpaceError) →
    IsOf {A = Acquire} context.who (requests.outcome_got place request context end)
of_got place request context (Ok (got.Granted id)) = refl
of_got place request context (Ok (got.Waits number searched)) = refl
of_got place request context (Err refusal) = refl

of_reusing : (ticket : Option Held) (place : ℕ) (request : Wish) (context : ContextView) → StaysOf {A = Acquire} context.who (requests.reusing ticket place request context)
of_reusing (Some ticket) place request context = refl
of_reusing None place request context =
    let serving = earliest (requests.suffices place request) context.kept in (
      refl,
      each_then {A = Result AskResult SpaceError} {B = Outcome Acquire} (IsOf context.who) (gains.gaining_from serving context.who place request.mode)
          (λ end. Give (requests.outcome_got place request context end)) (of_got place request context),
    )

of_place : (request : Wish) (context : ContextView) (answer : Answer) → StaysOf {A = Acquire} context.who (requests.place_answered request context answer)
of_place request context (At_place place) =
    let after = requests.remembering request.key place context in
    each_looked_up {A = Acquire} requests.got_lock place context (Grow (requests.starved context) (requests.acquiring_at place request after))
    (IsOf context.who) (λ reply after got is. refl) (refl, of_reusing (earliest (requests.is_reusable place request) after.kept) place request after)
of_place request context _ = refl

of_finding : (place : Option ℕ) (request : Wish) (context : ContextView) → StaysOf {A = Acquire} context.who (requests.finding place request context)
of_finding (Some place) request context = of_reusing (earliest (requests.is_reusable place request) context.kept) place request context
of_finding None request context = of_place request context

pub of_acquiring : (request : Wish) (context : ContextView) → StaysOf {A = Acquire} context.who (requests.acquiring request context)
of_acquiring request context =
    let place = place_known request.key context.known in
    either {A = Outcome Acquire} (StaysOf context.who) (is_some context.wait) (Give (Err Waiting, context)) (requests.finding place request context)
    refl (of_finding place request context)

-- ---- wishes that aren't waited for

of_tried : (place : ℕ) (request : Wish) (context : ContextView) (end : Result Tried SpaceError) →
    IsOf {A = Tried} context.who (requests.outcome_tried place request context end)
of_tried place request context (Ok (try_as.Acquired id)) = refl
of_tried place request context (Ok try_as.WouldWait) = refl
of_tried place request context (Err refusal) = refl

of_trying_again : (ticket : Option Held) (place : ℕ) (request : Wish) (context : ContextView) → StaysOf {A = Tried} context.who (requests.trying_again ticket place request context)
of_trying_again (Some ticket) place request context = refl
of_trying_again None place request context =
    let serving = earliest (requests.suffices place request) context.kept in (
      refl,
      each_then {A = Result Tried SpaceError} {B = Outcome Tried} (IsOf context.who) (gains.trying_from serving context.who place request.mode)
          (λ end. Give (requests.outcome_tried place request context end)) (of_tried place request context),
    )

of_trying_placed : (request : Wish) (context : ContextView) (answer : Answer) → StaysOf {A = Tried} context.who (requests.trying_placed request context answer)
of_trying_placed request context (At_place place) =
    let after = requests.remembering request.key place context in
    each_looked_up {A = Tried} requests.got_at_once place context (Grow (requests.starved context) (requests.trying_at place request after))
    (IsOf context.who) (λ reply after got is. refl) (refl, of_trying_again (earliest (requests.is_reusable place request) after.kept) place request after)
of_trying_placed request context _ = refl

of_trying_found : (place : Option ℕ) (request : Wish) (context : ContextView) → StaysOf {A = Tried} context.who (requests.trying_found place request context)
of_trying_found (Some place) request context = of_trying_again (earliest (requests.is_reusable place request) context.kept) place request context
of_trying_found None request context = of_trying_placed request context

pub of_trying : (request : Wish) (context : ContextView) → StaysOf {A = Tried} context.who (requests.trying request context)
of_trying request context =
    let place = place_known request.key context.known in
    either {A = Outcome Tried} (StaysOf context.who) (is_some context.wait) (Give (Err Waiting, context)) (requests.trying_found place request context)
    refl (of_trying_found place request context)

-- ---- merges

of_merged : {A : Type 0} (answer : A) (id : ℕ) (mode : Mode) (context : ContextView) (end : Result (Unit {0}) SpaceError) →
    IsOf {A = A} context.who (upgrades.merged answer id mode context end)
of_merged answer id mode context (Ok x) = refl
of_merged answer id mode context (Err refusal) = refl

-- ---- places that are let go of

pub of_tidying : {A : Type 0} (outcome : Outcome A) → StaysOf {A = A} outcome.1.who (tidying outcome)
of_tidying {A} (reply, context) = each_tidying {A = A} (IsOf context.who) reply context refl

-- ---- waits

of_won : (upgrade : Option (ℕ × Mode)) (new : ℕ) (context : ContextView) → StaysOf {A = Resume} context.who (waits.wait_won upgrade new context)
of_won None new context = refl
of_won (Some (id, mode)) new context =
    each_then {A = Result (Unit {0}) SpaceError} {B = Outcome Resume} (IsOf context.who) (upgrades.merging_new context.who id new)
    (λ end. Give (upgrades.merged (resume_as.Acquired id) id mode (waits.without_wait context) end))
    (of_merged {A = Resume} (resume_as.Acquired id) id mode (waits.without_wait context))

of_end : (context : ContextView) (answer : Answer) → StaysOf {A = Resume} context.who (waits.end_answered context answer)
of_end context (Granted id) = of_won (awaited_upgrade context.wait) id context
of_end context (Lost how) = of_tidying {A = Resume} (Ok (resume_as.Lost how), waits.without_wait context)
of_end context _ = refl

of_poll : (context : ContextView) (answer : Answer) → StaysOf {A = Resume} context.who (waits.poll_answered context answer)
of_poll context Pending = refl
of_poll context (Is_settled how) = of_end context
of_poll context _ = refl

of_sought : (context : ContextView) (end : SearchEnd) → StaysOf {A = Resume} context.who (waits.wait_sought context end)
of_sought context Over = of_poll (waits.with_searches_over context)
of_sought context Cut_off = of_poll context
of_sought context (Failed refusal) =
    let reply : Outcome Resume = (Err (Space refusal), waits.without_wait context) in
    each_then {A = Unit {0}} {B = Outcome Resume} (IsOf context.who) (gains.abandoning context.who) (λ _. tidying reply) (λ _. of_tidying {A = Resume} reply)

of_cut_off : (context : ContextView) (answer : Answer) → StaysOf {A = Resume} context.who (waits.cut_off_answered context answer)
of_cut_off context Pending =
    each_then {A = SearchEnd} {B = Outcome Resume} (IsOf context.who) (seeking most_searches context.who) (waits.wait_sought context) (of_sought context)
of_cut_off context (Is_settled how) = of_end context
of_cut_off context _ = refl

of_going_on : (searched : Option Bool) (context : ContextView) → StaysOf {A = Resume} context.who (waits.continuing_wait searched context)
of_going_on None context = refl
of_going_on (Some true) context = of_poll context
of_going_on (Some false) context = of_cut_off context

pub of_resuming : (context : ContextView) → StaysOf {A = Resume} context.who (waits.resuming context)
of_resuming context = of_going_on (waits.is_searched context.wait) context

pub of_giving_up_wait : (context : ContextView) → StaysOf {A = Resume} context.who (waits.giving_up_wait context)
of_giving_up_wait context =
    either {A = Outcome Resume} (StaysOf context.who) (is_some context.wait) (Ask (Settle_timeout context.who) (λ _. waits.ending_wait context))
    (Give (Err (Space NoWait), context)) (λ _. of_end context) refl

-- ---- releases

pub of_giving_up : (gone : List Kept) (context : ContextView) → StaysOf {A = Unit {0}} context.who (releases.releasing_tickets gone context)
of_giving_up gone context =
    let left : Outcome (Unit {0}) = (Ok tt, record context { kept = without_tickets gone context.kept }) in
    each_then {A = Unit {0}} {B = Outcome (Unit {0})} (IsOf context.who) (releases.releasing_all context.who gone) (λ _. tidying left)
    (λ _. of_tidying {A = Unit {0}} left)

of_unless : {A : Type 0} (fault : Option ContextError) (context : ContextView) (program : Program (Outcome A)) →
    StaysOf {A = A} context.who program → StaysOf {A = A} context.who (releases.unless fault context program)
of_unless (Some fault) context program each = refl
of_unless None context program each = each

pub of_releasing : (id : ℕ) (context : ContextView) → StaysOf {A = Unit {0}} context.who (releases.releasing id context)
of_releasing id context =
    let left : Outcome (Unit {0}) = (Ok tt, record context { kept = without_number id context.kept }) in
    of_unless {A = Unit {0}} (releases.release_fault id context) context (Ask (Release context.who id) (λ _. tidying left))
    (λ _. of_tidying {A = Unit {0}} left)

-- ---- other modes

of_second : (ticket : Kept) (mode : Mode) (context : ContextView) (end : Result AskResult SpaceError) → StaysOf {A = Acquire} context.who (upgrades.second_got ticket mode context end)
of_second ticket mode context (Ok (got.Granted new)) =
    each_then {A = Result (Unit {0}) SpaceError} {B = Outcome Acquire} (IsOf context.who) (upgrades.merging_new context.who ticket.id new)
    (λ end. Give (upgrades.merged (Acquired ticket.id) ticket.id mode context end)) (of_merged {A = Acquire} (Acquired ticket.id) ticket.id mode context)
of_second ticket mode context (Ok (got.Waits number searched)) = refl
of_second ticket mode context (Err refusal) = refl

of_upgrade : (ticket : Kept) (mode : Mode) (context : ContextView) (answer : Answer) → StaysOf {A = Acquire} context.who (upgrades.upgrade_answered ticket mode context answer)
of_upgrade ticket mode context Upgraded = refl
of_upgrade ticket mode context Would_wait = (
  refl,
  each_then {A = Result AskResult SpaceError} {B = Outcome Acquire} (IsOf context.who) (gains.waiting_at context.who ticket.place mode)
      (upgrades.second_got ticket mode context) (of_second ticket mode context),
)
of_upgrade ticket mode context _ = refl

of_upgrading_ticket : (ticket : Option Kept) (mode : Mode) (context : ContextView) → StaysOf {A = Acquire} context.who (upgrades.upgrading_ticket ticket mode context)
of_upgrading_ticket None mode context = refl
of_upgrading_ticket (Some ticket) mode context =
    of_unless {A = Acquire} (releases.waiting_fault context) context (Ask (Upgrade_now context.who ticket.id mode) (upgrades.upgrade_answered ticket mode context))
    (of_upgrade ticket mode context)

pub of_upgrading : (id : ℕ) (mode : Mode) (context : ContextView) → StaysOf {A = Acquire} context.who (upgrades.upgrading id mode context)
of_upgrading id mode context = of_upgrading_ticket (ticket_kept id context.kept) mode context

of_downgrade : (id : ℕ) (mode : Mode) (context : ContextView) (answer : Answer) → StaysOf {A = Unit {0}} context.who (upgrades.downgrade_answered id mode context answer)
of_downgrade id mode context Done = refl
of_downgrade id mode context _ = refl

pub of_downgrading : (id : ℕ) (mode : Mode) (context : ContextView) → StaysOf {A = Unit {0}} context.who (upgrades.downgrading id mode context)
of_downgrading id mode context =
    of_unless {A = Unit {0}} (releases.release_fault id context) context (Ask (Downgrade context.who id mode) (upgrades.downgrade_answered id mode context))
    (of_downgrade id mode context)
