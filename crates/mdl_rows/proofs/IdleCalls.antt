-- A context without a wait has none after a request, unless the request begins one, nor after it changed or released tickets.
use Rattle.std.proofs.Common.{◌≡◌, ℕ, List, Option, Some, None, Result, Ok, Err}
use Rattle.std.specs.Prelude.{is_some}
use Rattle.mdl_key.specs.declared.mode.Mode.{Mode}
use Rattle.mdl_calls.specs.declared.answers.Held.{Held}
use Rattle.mdl_calls.specs.declared.space_error.SpaceError.{SpaceError}
use Rattle.mdl_calls.specs.Words.{Answer, At_place, Done, Downgrade, Release, Upgrade_now, Upgraded, Would_wait, Each, Program, Give, Ask, Grow}
use Rattle.mdl_calls.proofs.FaithfulLemmas.{each_then, either}
use Rattle.mdl_context.specs.declared.asking.AskResult.{AskResult}
use Rattle.mdl_context.specs.declared.asking.AskResult.TheVariants as got
use Rattle.mdl_context.specs.declared.context_error.ContextError.{ContextError}
use Rattle.mdl_context.specs.declared.context_error.ContextError.TheVariants.{Waiting}
use Rattle.mdl_context.specs.declared.kept.Kept.{Kept}
use Rattle.mdl_context.specs.declared.request.Acquire.{Acquire}
use Rattle.mdl_context.specs.declared.request.Acquire.TheVariants.{Acquired, MustWait}
use Rattle.mdl_context.specs.declared.request.Tried.{Tried}
use Rattle.mdl_context.specs.declared.request.Tried.TheVariants as try_as
use Rattle.mdl_context.specs.Contexts.{ContextView, place_known, ticket_kept, without_tickets}
use Rattle.mdl_context.specs.Gains.{gaining_from, trying_from, waiting_at}
use Rattle.mdl_context.specs.Holdings.{earliest, without_number}
use Rattle.mdl_context.specs.Releases.{release_fault, releasing, releasing_all, releasing_tickets, unless, waiting_fault}
use Rattle.mdl_context.specs.Requests.{Outcome, acquiring, acquiring_at, finding, got_at_once, got_lock, is_reusable, outcome_got, outcome_tried, place_answered, remembering, reusing, starved, suffices, trying, trying_again, trying_at, trying_found, trying_placed}
use Rattle.mdl_context.specs.Tidying.{tidied, tidying, unneeded, unpinning_all}
use Rattle.mdl_context.specs.Upgrades.{downgrade_answered, downgrading, merged, merging_new, second_got, upgrade_answered, upgrading, upgrading_ticket}
use Rattle.mdl_context.specs.Wishes.{Wish}
use Rattle.mdl_context.proofs.LookUpLemmas.{each_looked_up}

-- the context has no wait
abbrev pub IsIdle : {A : Type 0} → Outcome A → Type 0
IsIdle outcome = outcome.1.wait ≡ None

-- the context has no wait, unless the request began one
abbrev pub IsIdleOrWaits : Outcome Acquire → Type 0
IsIdleOrWaits (Ok (MustWait number), context) = Unit {0}
IsIdleOrWaits (reply, context) = context.wait ≡ None

idle-or : (reply : Result Acquire ContextError) (context : ContextView) → context.wait ≡ None → IsIdleOrWaits (reply, context)
idle-or (Ok (Acquired id)) context idle = idle
idle-or (Ok (MustWait number)) context idle = tt
idle-or (Err error) context idle = idle

-- ---- requests

idle-got : (place : ℕ) (request : Wish) (context : ContextView) → context.wait ≡ None → (end : Result AskResult SpaceError)
    → IsIdleOrWaits (outcome_got place request context end)
idle-got place request context idle (Ok (got.Granted id)) = idle
idle-got place request context idle (Ok (got.Waits number searched)) = tt
idle-got place request context idle (Err refusal) = idle

idle-reusing : (found : Option Held) (place : ℕ) (request : Wish) (context : ContextView) → context.wait ≡ None → Each IsIdleOrWaits (reusing found place request context)
idle-reusing (Some ticket) place request context idle = idle
idle-reusing None place request context idle = (
  idle,
  each_then {A = Result AskResult SpaceError} {B = Outcome Acquire} IsIdleOrWaits (gaining_from (earliest (suffices place request) context.kept) context.who place request.mode)
      (λ end. Give (outcome_got place request context end)) (idle-got place request context idle),
)

idle-placed : (request : Wish) (context : ContextView) → context.wait ≡ None → (answer : Answer) → Each IsIdleOrWaits (place_answered request context answer)
idle-placed request context idle (At_place place) =
    let there = remembering request.key place context in
    each_looked_up {A = Acquire} got_lock place context (Grow (starved context) (acquiring_at place request there)) IsIdleOrWaits (λ reply after lost so. idle-or reply context idle)
    (idle, idle-reusing (earliest (is_reusable place request) there.kept) place request there idle)
idle-placed request context idle _ = idle

idle-finding : (found : Option ℕ) (request : Wish) (context : ContextView) → context.wait ≡ None → Each IsIdleOrWaits (finding found request context)
idle-finding (Some place) request context idle = idle-reusing (earliest (is_reusable place request) context.kept) place request context idle
idle-finding None request context idle = idle-placed request context idle

pub idle-acquiring : (request : Wish) (context : ContextView) → context.wait ≡ None → Each IsIdleOrWaits (acquiring request context)
idle-acquiring request context idle =
    let found = place_known request.key context.known in
    either {A = Outcome Acquire} (Each IsIdleOrWaits) (is_some context.wait) (Give (Err Waiting, context)) (finding found request context) idle
    (idle-finding found request context idle)

-- ---- without a wait

idle-tried : (place : ℕ) (request : Wish) (context : ContextView) → context.wait ≡ None → (end : Result Tried SpaceError)
    → IsIdle {A = Tried} (outcome_tried place request context end)
idle-tried place request context idle (Ok (try_as.Acquired id)) = idle
idle-tried place request context idle (Ok try_as.WouldWait) = idle
idle-tried place request context idle (Err refusal) = idle

idle-trying_again : (found : Option Held) (place : ℕ) (request : Wish) (context : ContextView) → context.wait ≡ None
    → Each (IsIdle {A = Tried}) (trying_again found place request context)
idle-trying_again (Some ticket) place request context idle = idle
idle-trying_again None place request context idle = (
  idle,
  each_then {A = Result Tried SpaceError} {B = Outcome Tried} (IsIdle {A = Tried}) (trying_from (earliest (suffices place request) context.kept) context.who place request.mode)
      (λ end. Give (outcome_tried place request context end)) (idle-tried place request context idle),
)

idle-trying_placed : (request : Wish) (context : ContextView) → context.wait ≡ None → (answer : Answer) → Each (IsIdle {A = Tried}) (trying_placed request context answer)
idle-trying_placed request context idle (At_place place) =
    let there = remembering request.key place context in
    each_looked_up {A = Tried} got_at_once place context (Grow (starved context) (trying_at place request there)) (IsIdle {A = Tried}) (λ reply after lost so. idle)
    (idle, idle-trying_again (earliest (is_reusable place request) there.kept) place request there idle)
idle-trying_placed request context idle _ = idle

idle-trying_found : (found : Option ℕ) (request : Wish) (context : ContextView) → context.wait ≡ None → Each (IsIdle {A = Tried}) (trying_found found request context)
idle-trying_found (Some place) request context idle = idle-trying_again (earliest (is_reusable place request) context.kept) place request context idle
idle-trying_found None request context idle = idle-trying_placed request context idle

pub idle-trying : (request : Wish) (context : ContextView) → context.wait ≡ None → Each (IsIdle {A = Tried}) (trying request context)
idle-trying request context idle =
    let found = place_known request.key context.known in
    either {A = Outcome Tried} (Each (IsIdle {A = Tried})) (is_some context.wait) (Give (Err Waiting, context)) (trying_found found request context) idle
    (idle-trying_found found request context idle)

-- ---- upgrades and downgrades

module _ (context : ContextView) (idle : context.wait ≡ None) where
  idle-merged : (id : ℕ) (mode : Mode) (end : Result (Unit {0}) SpaceError) → IsIdleOrWaits (merged (Acquired id) id mode context end)
  idle-merged id mode (Ok done) = idle
  idle-merged id mode (Err refusal) = idle

  idle-second : (ticket : Kept) (mode : Mode) (end : Result AskResult SpaceError) → Each IsIdleOrWaits (second_got ticket mode context end)
  idle-second ticket mode (Ok (got.Granted new)) =
      each_then {A = Result (Unit {0}) SpaceError} {B = Outcome Acquire} IsIdleOrWaits (merging_new context.who ticket.id new)
      (λ end. Give (merged (Acquired ticket.id) ticket.id mode context end)) (idle-merged ticket.id mode)
  idle-second ticket mode (Ok (got.Waits number searched)) = tt
  idle-second ticket mode (Err refusal) = idle

  idle-upgrade : (ticket : Kept) (mode : Mode) (answer : Answer) → Each IsIdleOrWaits (upgrade_answered ticket mode context answer)
  idle-upgrade ticket mode Upgraded = idle
  idle-upgrade ticket mode Would_wait = (
    idle,
    each_then {A = Result AskResult SpaceError} {B = Outcome Acquire} IsIdleOrWaits (waiting_at context.who ticket.place mode) (second_got ticket mode context)
        (idle-second ticket mode),
  )
  idle-upgrade ticket mode _ = idle

  idle-unless : (fault : Option ContextError) (program : Program (Outcome Acquire)) → Each IsIdleOrWaits program → Each IsIdleOrWaits (unless fault context program)
  idle-unless (Some fault) program each = idle
  idle-unless None program each = each

  idle-upgrading_ticket : (found : Option Kept) (mode : Mode) → Each IsIdleOrWaits (upgrading_ticket found mode context)
  idle-upgrading_ticket None mode = idle
  idle-upgrading_ticket (Some ticket) mode =
      idle-unless (waiting_fault context) (Ask (Upgrade_now context.who ticket.id mode) (upgrade_answered ticket mode context)) (idle-upgrade ticket mode)

  pub idle-upgrading : (id : ℕ) (mode : Mode) → Each IsIdleOrWaits (upgrading id mode context)
  idle-upgrading id mode = idle-upgrading_ticket (ticket_kept id context.kept) mode

  idle-or_refused : (fault : Option ContextError) (program : Program (Outcome (Unit {0}))) → Each (IsIdle {A = Unit {0}}) program
      → Each (IsIdle {A = Unit {0}}) (unless fault context program)
  idle-or_refused (Some fault) program each = idle
  idle-or_refused None program each = each

  idle-downgrade : (id : ℕ) (mode : Mode) (answer : Answer) → Each (IsIdle {A = Unit {0}}) (downgrade_answered id mode context answer)
  idle-downgrade id mode Done = idle
  idle-downgrade id mode _ = idle

  pub idle-downgrading : (id : ℕ) (mode : Mode) → Each (IsIdle {A = Unit {0}}) (downgrading id mode context)
  idle-downgrading id mode =
      idle-or_refused (release_fault id context) (Ask (Downgrade context.who id mode) (downgrade_answered id mode context)) (idle-downgrade id mode)

  -- ---- releases

  idle-tidying : (left : ContextView) → left.wait ≡ None → Each (IsIdle {A = Unit {0}}) (tidying (Ok tt, left))
  idle-tidying left none =
      each_then {A = Unit {0}} {B = Outcome (Unit {0})} (IsIdle {A = Unit {0}}) (unpinning_all left.who (unneeded left)) (λ _. Give (Ok tt, tidied left)) (λ _. none)

  pub idle-releasing : (id : ℕ) → Each (IsIdle {A = Unit {0}}) (releasing id context)
  idle-releasing id =
      let left : ContextView = record context { kept = without_number id context.kept } in
      idle-or_refused (release_fault id context) (Ask (Release context.who id) (λ _. tidying (Ok tt, left))) (λ _. idle-tidying left idle)

  pub idle-giving_up : (gone : List Kept) → Each (IsIdle {A = Unit {0}}) (releasing_tickets gone context)
  idle-giving_up gone =
      let left : ContextView = record context { kept = without_tickets gone context.kept } in
      each_then {A = Unit {0}} {B = Outcome (Unit {0})} (IsIdle {A = Unit {0}}) (releasing_all context.who gone) (λ _. tidying (Ok tt, left)) (λ _. idle-tidying left idle)
