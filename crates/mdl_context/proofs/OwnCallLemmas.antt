-- All calls of a context are made for its session, the space of one thread has them, and none reads with a cache.
use Rattle.std.proofs.Common.{◌≡◌, ℕ, true, false, List, [], ◌∷◌, Option, Some, None, Result, Ok, Err, refl, sym, subst}
use Rattle.std.specs.Prelude.{Bool, is_some}
use Rattle.std.specs.Option.{IfSome}
use Rattle.mdl_key.specs.declared.mode.Mode.{Mode}
use Rattle.mdl_calls.specs.declared.answers.Held.{Held}
use Rattle.mdl_calls.specs.declared.space_error.SpaceError.{SpaceError}
use Rattle.mdl_calls.specs.declared.space_error.SpaceError.TheVariants.{NoWait}
use Rattle.mdl_calls.specs.Words.{Answer, At_place, Done, Granted, Upgraded, Would_wait, Waits, Pending, Is_settled, Lost, Call, Release, Upgrade_now, Downgrade, Settle_timeout, Program, Give, Ask, Grow, ◌>>◌, EachCall, SearchEnd, Over, Cut_off, Failed, seeking, most_searches}
use Rattle.mdl_calls.proofs.FaithfulLemmas.{either, calls_bind}
use Rattle.mdl_calls.proofs.SeekingLemmas.{calls_seeking}
use Rattle.mdl_core.specs.RunLaws.{IsMadeFor}
use Rattle.mdl_context.specs.declared.asking.AskResult.{AskResult}
use Rattle.mdl_context.specs.declared.asking.AskResult.TheVariants as got
use Rattle.mdl_context.specs.declared.context_error.ContextError.{ContextError}
use Rattle.mdl_context.specs.declared.context_error.ContextError.TheVariants.{Waiting, Space}
use Rattle.mdl_context.specs.declared.kept.Kept.{Kept}
use Rattle.mdl_context.specs.declared.request.Acquire.{Acquire}
use Rattle.mdl_context.specs.declared.request.Acquire.TheVariants.{Acquired}
use Rattle.mdl_context.specs.declared.request.Tried.{Tried}
use Rattle.mdl_context.specs.Wishes.{Wish}
use Rattle.mdl_context.specs.declared.request.Resume.{Resume}
use Rattle.mdl_context.specs.declared.request.Resume.TheVariants as resume_as
use Rattle.mdl_context.specs.Contexts.{ContextView, ticket_kept, without_tickets, place_known}
use Rattle.mdl_context.specs.Gains as gains
use Rattle.mdl_context.specs.Holdings.{awaited_upgrade, earliest, without_number}
use Rattle.mdl_context.specs.MemoryLaws.{IsOwnCall}
use Rattle.mdl_context.specs.Releases as releases
use Rattle.mdl_context.specs.Requests as requests
use Rattle.mdl_context.specs.Requests.{Outcome}
use Rattle.mdl_context.specs.Tidying.{tidied, tidying, unneeded, unpinning_all}
use Rattle.mdl_context.specs.Upgrades as upgrades
use Rattle.mdl_context.specs.Waits as waits
use Rattle.mdl_context.proofs.LookUpLemmas.{calls_looked_up}

-- all calls of a program are made for a session
abbrev pub AreOwn : {A : Type 0} → ℕ → Program A → Type 0
AreOwn who program = EachCall (IsOwnCall who) program

-- ---- a wait that is given up, and searches

own_unwanted : (who : ℕ) (answer : Answer) → AreOwn who (gains.unwanted_end_answered who answer)
own_unwanted who (Granted id) = ((refl, refl), λ _. tt)
own_unwanted who _ = tt

-- a wait is ended that isn't wanted any more
own_given_up : (who : ℕ) → AreOwn who (gains.abandoning who)
own_given_up who = ((refl, refl), λ _. ((refl, refl), own_unwanted who))

-- and then this is the reply
own_abandoning : {A : Type 0} (who : ℕ) (reply : A) → AreOwn who (gains.abandoning who >> Give reply)
own_abandoning who reply = calls_bind {A = Unit {0}} (IsOwnCall who) (gains.abandoning who) (λ _. Give reply) (own_given_up who) (λ _. tt)

own_seeking : (n who : ℕ) → AreOwn who (seeking n who)
own_seeking n who = calls_seeking (IsOwnCall who) who (refl, refl) n

-- ---- wishes

own_copy : (who : ℕ) (answer : Answer) → AreOwn who (gains.copy_answered answer)
own_copy who (Granted id) = tt
own_copy who _ = tt

own_wish_sought : (who number : ℕ) (end : SearchEnd) → AreOwn who (gains.wish_sought who number end)
own_wish_sought who number Over = tt
own_wish_sought who number Cut_off = tt
own_wish_sought who number (Failed refusal) = own_abandoning {A = Result AskResult SpaceError} who (Err refusal)

own_wish : (who : ℕ) (answer : Answer) → AreOwn who (gains.wish_answered who answer)
own_wish who (Granted id) = tt
own_wish who (Waits number) =
    calls_bind {A = SearchEnd} {B = Result AskResult SpaceError} (IsOwnCall who) (seeking most_searches who) (gains.wish_sought who number)
    (own_seeking most_searches who) (own_wish_sought who number)
own_wish who _ = tt

own_try : (who place : ℕ) (mode : Mode) (answer : Answer) → AreOwn who (gains.try_answered who place mode answer)
own_try who place mode (Granted id) = tt
own_try who place mode Would_wait = ((refl, refl), own_wish who)
own_try who place mode _ = tt

own_gaining : (ticket : Option Held) (who place : ℕ) (mode : Mode) → AreOwn who (gains.gaining_from ticket who place mode)
own_gaining (Some ticket) who place mode = ((refl, refl), own_copy who)
own_gaining None who place mode = ((refl, refl), own_try who place mode)

pub own_reusing : (ticket : Option Held) (place : ℕ) (request : Wish) (context : ContextView) → AreOwn context.who (requests.reusing ticket place request context)
own_reusing (Some ticket) place request context = tt
own_reusing None place request context =
    let serving = earliest (requests.suffices place request) context.kept in (
      tt,
      calls_bind {A = Result AskResult SpaceError} {B = Outcome Acquire} (IsOwnCall context.who) (gains.gaining_from serving context.who place request.mode)
          (λ end. Give (requests.outcome_got place request context end)) (own_gaining serving context.who place request.mode) (λ _. tt),
    )

own_place : (request : Wish) (context : ContextView) (answer : Answer) → AreOwn context.who (requests.place_answered request context answer)
own_place request context (At_place place) =
    let after = requests.remembering request.key place context in
    calls_looked_up {A = Acquire} requests.got_lock place context (Grow (requests.starved context) (requests.acquiring_at place request after))
    (IsOwnCall context.who) (refl, refl) (tt, own_reusing (earliest (requests.is_reusable place request) after.kept) place request after)
own_place request context _ = tt

pub own_finding : (place : Option ℕ) (request : Wish) (context : ContextView) → AreOwn context.who (requests.finding place request context)
own_finding (Some place) request context = own_reusing (earliest (requests.is_reusable place request) context.kept) place request context
own_finding None request context = ((refl, refl), own_place request context)

pub own_acquiring : (request : Wish) (context : ContextView) → EachCall (IsOwnCall context.who) (requests.acquiring request context)
own_acquiring request context =
    let place = place_known request.key context.known in
    either {A = Outcome Acquire} (AreOwn context.who) (is_some context.wait) (Give (Err Waiting, context)) (requests.finding place request context)
    tt (own_finding place request context)

-- ---- wishes that aren't waited for

own_tried : (who : ℕ) (answer : Answer) → AreOwn who (gains.tried_answered answer)
own_tried who (Granted id) = tt
own_tried who Would_wait = tt
own_tried who _ = tt

own_trying_from : (ticket : Option Held) (who place : ℕ) (mode : Mode) → AreOwn who (gains.trying_from ticket who place mode)
own_trying_from (Some ticket) who place mode = ((refl, refl), own_tried who)
own_trying_from None who place mode = ((refl, refl), own_tried who)

pub own_trying_again : (ticket : Option Held) (place : ℕ) (request : Wish) (context : ContextView) → AreOwn context.who (requests.trying_again ticket place request context)
own_trying_again (Some ticket) place request context = tt
own_trying_again None place request context =
    let serving = earliest (requests.suffices place request) context.kept in (
      tt,
      calls_bind {A = Result Tried SpaceError} {B = Outcome Tried} (IsOwnCall context.who) (gains.trying_from serving context.who place request.mode)
          (λ end. Give (requests.outcome_tried place request context end)) (own_trying_from serving context.who place request.mode) (λ _. tt),
    )

own_trying_placed : (request : Wish) (context : ContextView) (answer : Answer) → AreOwn context.who (requests.trying_placed request context answer)
own_trying_placed request context (At_place place) =
    let after = requests.remembering request.key place context in
    calls_looked_up {A = Tried} requests.got_at_once place context (Grow (requests.starved context) (requests.trying_at place request after))
    (IsOwnCall context.who) (refl, refl) (tt, own_trying_again (earliest (requests.is_reusable place request) after.kept) place request after)
own_trying_placed request context _ = tt

pub own_trying_found : (place : Option ℕ) (request : Wish) (context : ContextView) → AreOwn context.who (requests.trying_found place request context)
own_trying_found (Some place) request context = own_trying_again (earliest (requests.is_reusable place request) context.kept) place request context
own_trying_found None request context = ((refl, refl), own_trying_placed request context)

pub own_trying : (request : Wish) (context : ContextView) → EachCall (IsOwnCall context.who) (requests.trying request context)
own_trying request context =
    let place = place_known request.key context.known in
    either {A = Outcome Tried} (AreOwn context.who) (is_some context.wait) (Give (Err Waiting, context)) (requests.trying_found place request context)
    tt (own_trying_found place request context)

-- ---- merges

own_merge : (who new : ℕ) (answer : Answer) → AreOwn who (upgrades.merge_answered who new answer)
own_merge who new Done = tt
own_merge who new _ = ((refl, refl), λ _. tt)

pub own_merging : (who id new : ℕ) → AreOwn who (upgrades.merging_new who id new)
own_merging who id new = ((refl, refl), own_merge who new)

-- ---- places that are let go of

own_unpinning : (who : ℕ) (places : List ℕ) → AreOwn who (unpinning_all who places)
own_unpinning who [] = tt
own_unpinning who (place ∷ places) = ((refl, refl), λ _. own_unpinning who places)

-- the places are let go of where the context has nothing
pub own_tidying : {A : Type 0} (outcome : Outcome A) → EachCall (IsOwnCall outcome.1.who) (tidying outcome)
own_tidying {A} (reply, context) =
    calls_bind {A = Unit {0}} {B = Outcome A} (IsOwnCall context.who) (unpinning_all context.who (unneeded context)) (λ _. Give (reply, tidied context))
    (own_unpinning context.who (unneeded context)) (λ _. tt)

-- ---- waits

pub own_won : (upgrade : Option (ℕ × Mode)) (new : ℕ) (context : ContextView) → AreOwn context.who (waits.wait_won upgrade new context)
own_won None new context = tt
own_won (Some (id, mode)) new context =
    calls_bind {A = Result (Unit {0}) SpaceError} {B = Outcome Resume} (IsOwnCall context.who) (upgrades.merging_new context.who id new)
    (λ end. Give (upgrades.merged (resume_as.Acquired id) id mode (waits.without_wait context) end)) (own_merging context.who id new) (λ _. tt)

own_end : (context : ContextView) (answer : Answer) → AreOwn context.who (waits.end_answered context answer)
own_end context (Granted id) = own_won (awaited_upgrade context.wait) id context
own_end context (Lost how) = own_tidying {A = Resume} (Ok (resume_as.Lost how), waits.without_wait context)
own_end context _ = tt

pub own_ending : (context : ContextView) → AreOwn context.who (waits.ending_wait context)
own_ending context = ((refl, refl), own_end context)

own_poll : (context : ContextView) (answer : Answer) → AreOwn context.who (waits.poll_answered context answer)
own_poll context Pending = tt
own_poll context (Is_settled how) = own_ending context
own_poll context _ = tt

pub own_looking : (context : ContextView) → AreOwn context.who (waits.looking context)
own_looking context = ((refl, refl), own_poll context)

own_wait_sought : (context : ContextView) (end : SearchEnd) → AreOwn context.who (waits.wait_sought context end)
own_wait_sought context Over = own_looking (waits.with_searches_over context)
own_wait_sought context Cut_off = own_looking context
own_wait_sought context (Failed refusal) =
    let reply : Outcome Resume = (Err (Space refusal), waits.without_wait context) in
    calls_bind {A = Unit {0}} {B = Outcome Resume} (IsOwnCall context.who) (gains.abandoning context.who) (λ _. tidying reply) (own_given_up context.who)
    (λ _. own_tidying {A = Resume} reply)

pub own_searching_on : (context : ContextView) → AreOwn context.who (waits.searching_on context)
own_searching_on context =
    calls_bind {A = SearchEnd} {B = Outcome Resume} (IsOwnCall context.who) (seeking most_searches context.who) (waits.wait_sought context)
    (own_seeking most_searches context.who) (own_wait_sought context)

own_cut_off : (context : ContextView) (answer : Answer) → AreOwn context.who (waits.cut_off_answered context answer)
own_cut_off context Pending = own_searching_on context
own_cut_off context (Is_settled how) = own_ending context
own_cut_off context _ = tt

own_going_on : (searched : Option Bool) (context : ContextView) → AreOwn context.who (waits.continuing_wait searched context)
own_going_on None context = tt
own_going_on (Some true) context = own_looking context
own_going_on (Some false) context = ((refl, refl), own_cut_off context)

pub own_resuming : (context : ContextView) → EachCall (IsOwnCall context.who) (waits.resuming context)
own_resuming context = own_going_on (waits.is_searched context.wait) context

pub own_giving_up_wait : (context : ContextView) → EachCall (IsOwnCall context.who) (waits.giving_up_wait context)
own_giving_up_wait context =
    either {A = Outcome Resume} (AreOwn context.who) (is_some context.wait) (Ask (Settle_timeout context.who) (λ _. waits.ending_wait context))
    (Give (Err (Space NoWait), context)) ((refl, refl), λ _. ((refl, refl), own_end context)) tt

-- ---- releases

pub own_all : (who : ℕ) (gone : List Kept) → AreOwn who (releases.releasing_all who gone)
own_all who [] = tt
own_all who (ticket ∷ tickets) = ((refl, refl), λ _. own_all who tickets)

pub own_giving_up : (gone : List Kept) (context : ContextView) → EachCall (IsOwnCall context.who) (releases.releasing_tickets gone context)
own_giving_up gone context =
    let left : Outcome (Unit {0}) = (Ok tt, record context { kept = without_tickets gone context.kept }) in
    calls_bind {A = Unit {0}} {B = Outcome (Unit {0})} (IsOwnCall context.who) (releases.releasing_all context.who gone) (λ _. tidying left)
    (own_all context.who gone) (λ _. own_tidying left)

pub own_unless : {A : Type 0} (fault : Option ContextError) (context : ContextView) (program : Program (Outcome A)) →
    EachCall (IsOwnCall context.who) program → EachCall (IsOwnCall context.who) (releases.unless fault context program)
own_unless (Some fault) context program made = tt
own_unless None context program made = made

pub own_releasing : (id : ℕ) (context : ContextView) → EachCall (IsOwnCall context.who) (releases.releasing id context)
own_releasing id context =
    let left : Outcome (Unit {0}) = (Ok tt, record context { kept = without_number id context.kept }) in
    own_unless (releases.release_fault id context) context (Ask (Release context.who id) (λ _. tidying left)) ((refl, refl), λ _. own_tidying left)

-- ---- other modes

own_waiting_at : (who place : ℕ) (mode : Mode) → AreOwn who (gains.waiting_at who place mode)
own_waiting_at who place mode = ((refl, refl), own_wish who)

own_second : (ticket : Kept) (mode : Mode) (context : ContextView) (end : Result AskResult SpaceError) → AreOwn context.who (upgrades.second_got ticket mode context end)
own_second ticket mode context (Ok (got.Granted new)) =
    calls_bind {A = Result (Unit {0}) SpaceError} {B = Outcome Acquire} (IsOwnCall context.who) (upgrades.merging_new context.who ticket.id new)
    (λ end. Give (upgrades.merged (Acquired ticket.id) ticket.id mode context end)) (own_merging context.who ticket.id new) (λ _. tt)
own_second ticket mode context (Ok (got.Waits number searched)) = tt
own_second ticket mode context (Err refusal) = tt

pub own_to_upgrade : (ticket : Kept) (mode : Mode) (context : ContextView) → AreOwn context.who (upgrades.waiting_to_upgrade ticket mode context)
own_to_upgrade ticket mode context = (
  tt,
  calls_bind {A = Result AskResult SpaceError} {B = Outcome Acquire} (IsOwnCall context.who) (gains.waiting_at context.who ticket.place mode)
      (upgrades.second_got ticket mode context) (own_waiting_at context.who ticket.place mode) (own_second ticket mode context),
)

own_upgrade : (ticket : Kept) (mode : Mode) (context : ContextView) (answer : Answer) → AreOwn context.who (upgrades.upgrade_answered ticket mode context answer)
own_upgrade ticket mode context Upgraded = tt
own_upgrade ticket mode context Would_wait = own_to_upgrade ticket mode context
own_upgrade ticket mode context _ = tt

own_upgrading_ticket : (ticket : Option Kept) (mode : Mode) (context : ContextView) → AreOwn context.who (upgrades.upgrading_ticket ticket mode context)
own_upgrading_ticket None mode context = tt
own_upgrading_ticket (Some ticket) mode context =
    own_unless {A = Acquire} (releases.waiting_fault context) context (Ask (Upgrade_now context.who ticket.id mode) (upgrades.upgrade_answered ticket mode context))
    ((refl, refl), own_upgrade ticket mode context)

pub own_upgrading : (id : ℕ) (mode : Mode) (context : ContextView) → EachCall (IsOwnCall context.who) (upgrades.upgrading id mode context)
own_upgrading id mode context = own_upgrading_ticket (ticket_kept id context.kept) mode context

own_downgrade : (id : ℕ) (mode : Mode) (context : ContextView) (answer : Answer) → AreOwn context.who (upgrades.downgrade_answered id mode context answer)
own_downgrade id mode context Done = tt
own_downgrade id mode context _ = tt

pub own_downgrading : (id : ℕ) (mode : Mode) (context : ContextView) → EachCall (IsOwnCall context.who) (upgrades.downgrading id mode context)
own_downgrading id mode context =
    own_unless {A = Unit {0}} (releases.release_fault id context) context (Ask (Downgrade context.who id mode) (upgrades.downgrade_answered id mode context))
    ((refl, refl), own_downgrade id mode context)

-- ---- for those who ask more, or less, of calls

-- a call of the session is made for it or for nobody
pub own_made : (who : ℕ) (call : Call) → IsOwnCall who call → IsMadeFor who call
own_made who call own = subst (λ maker. IfSome maker (λ w. w ≡ who)) (sym own.0) refl

-- what is so of each such call, is so of all calls of a program
pub calls_weaker : {A : Type 0} (P Q : Call → Type 0) → ((call : Call) → P call → Q call) → (program : Program A) → EachCall P program → EachCall Q program
calls_weaker P Q so (Give x) each = tt
calls_weaker P Q so (Ask call next) each = (so call each.0, λ answer. calls_weaker P Q so (next answer) (each.1 answer))
calls_weaker P Q so (Grow refused found) each = (calls_weaker P Q so refused each.0, calls_weaker P Q so found each.1)
