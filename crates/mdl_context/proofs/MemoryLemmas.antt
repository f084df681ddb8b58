-- A context's programs where memory is wanting: which of them take none, and that the others answer so.
use Rattle.std.proofs.Common.{◌≡◌, ℕ, true, false, List, [], ◌∷◌, Option, Some, None, Result, Ok, Err, refl, sym, ap, subst}
use Rattle.std.specs.Prelude.{Bool, is_some}
use Rattle.mdl_key.specs.declared.mode.Mode.{Mode}
use Rattle.mdl_calls.specs.declared.answers.Held.{Held}
use Rattle.mdl_calls.specs.declared.space_error.SpaceError.{SpaceError}
use Rattle.mdl_calls.specs.declared.space_error.SpaceError.TheVariants.{OutOfMemory, NoWait}
use Rattle.mdl_calls.specs.Words.{Answer, At_place, Done, Granted, Upgraded, Would_wait, Waits, Pending, Is_settled, Lost, Settle_timeout, Release, Upgrade_now, Downgrade, Program, Give, Ask, Grow, ◌>>◌, Each, IsFaithful, IsFrugal, SearchEnd, Over, Cut_off, Failed, IsStarvedSearch, seeking, most_searches}
use Rattle.mdl_calls.proofs.FaithfulLemmas.{either, each_then, faithful_bind, frugal_bind, frugal_faithful}
use Rattle.mdl_calls.proofs.SeekingLemmas.{faithful_seeking}
use Rattle.mdl_context.specs.declared.asking.AskResult.{AskResult}
use Rattle.mdl_context.specs.declared.asking.AskResult.TheVariants as got
use Rattle.mdl_context.specs.declared.context_error.ContextError.{ContextError}
use Rattle.mdl_context.specs.declared.context_error.ContextError.TheVariants.{Waiting, Space}
use Rattle.mdl_context.specs.declared.kept.Kept.{Kept}
use Rattle.mdl_context.specs.declared.request.Acquire.{Acquire}
use Rattle.mdl_context.specs.declared.request.Acquire.TheVariants.{Acquired}
use Rattle.mdl_context.specs.declared.request.Tried.{Tried}
use Rattle.mdl_context.specs.Wishes.{Wish}
use Rattle.mdl_context.specs.declared.request.Resume.{Resume}
use Rattle.mdl_context.specs.declared.request.Resume.TheVariants as resume_as
use Rattle.mdl_context.specs.Contexts.{ContextView, ticket_kept, without_tickets, place_known}
use Rattle.mdl_context.specs.Gains as gains
use Rattle.mdl_context.specs.Holdings.{awaited_upgrade, earliest, without_number}
use Rattle.mdl_context.specs.MemoryLaws.{IsStarved}
use Rattle.mdl_context.specs.Releases as releases
use Rattle.mdl_context.specs.Requests as requests
use Rattle.mdl_context.specs.Requests.{Outcome}
use Rattle.mdl_context.specs.Tidying.{tidied, tidying, unneeded, unpinning_all}
use Rattle.mdl_context.specs.Upgrades as upgrades
use Rattle.mdl_context.specs.Waits as waits
use Rattle.mdl_context.proofs.LookUpLemmas.{faithful_looked_up}
use Rattle.mdl_context.proofs.TidyLemmas.{each_tidying}

-- ---- what takes no memory

frugal_unwanted : (who : ℕ) (answer : Answer) → IsFrugal (gains.unwanted_end_answered who answer)
frugal_unwanted who (Granted id) = (refl, λ _. tt)
frugal_unwanted who _ = tt

-- a wait is ended that isn't wanted any more
frugal_given_up : (who : ℕ) → IsFrugal (gains.abandoning who)
frugal_given_up who = (refl, λ _. (refl, frugal_unwanted who))

-- and then this is the reply
frugal_abandoning : {A : Type 0} (who : ℕ) (reply : A) → IsFrugal (gains.abandoning who >> Give reply)
frugal_abandoning who reply = frugal_bind {A = Unit {0}} (gains.abandoning who) (λ _. Give reply) (frugal_given_up who) (λ _. tt)

frugal_unpinning : (who : ℕ) (places : List ℕ) → IsFrugal (unpinning_all who places)
frugal_unpinning who [] = tt
frugal_unpinning who (place ∷ places) = (refl, λ _. frugal_unpinning who places)

-- the places are let go of where the context has nothing
pub frugal_tidying : {A : Type 0} (outcome : Outcome A) → IsFrugal (tidying outcome)
frugal_tidying {A} (reply, context) =
    frugal_bind {A = Unit {0}} {B = Outcome A} (unpinning_all context.who (unneeded context)) (λ _. Give (reply, tidied context))
    (frugal_unpinning context.who (unneeded context)) (λ _. tt)

-- the end of a wait that upgrades no ticket
frugal_end : (context : ContextView) → awaited_upgrade context.wait ≡ None → (answer : Answer) → IsFrugal (waits.end_answered context answer)
frugal_end context none (Granted id) = subst (λ upgrade. IsFrugal (waits.wait_won upgrade id context)) (sym none) tt
frugal_end context none (Lost how) = frugal_tidying {A = Resume} (Ok (resume_as.Lost how), waits.without_wait context)
frugal_end context none _ = tt

frugal_poll : (context : ContextView) → awaited_upgrade context.wait ≡ None → (answer : Answer) → IsFrugal (waits.poll_answered context answer)
frugal_poll context none Pending = tt
frugal_poll context none (Is_settled how) = (refl, frugal_end context none)
frugal_poll context none _ = tt

-- a wait for which the searches are over goes on
pub frugal_resuming : (context : ContextView) → waits.is_searched context.wait ≡ Some true → awaited_upgrade context.wait ≡ None → IsFrugal (waits.resuming context)
frugal_resuming context over none = subst (λ searched. IsFrugal (waits.continuing_wait searched context)) (sym over) (refl, frugal_poll context none)

pub frugal_giving_up_wait : (context : ContextView) → awaited_upgrade context.wait ≡ None → IsFrugal (waits.giving_up_wait context)
frugal_giving_up_wait context none =
    either {A = Outcome Resume} IsFrugal (is_some context.wait) (Ask (Settle_timeout context.who) (λ _. waits.ending_wait context))
    (Give (Err (Space NoWait), context)) (refl, λ _. (refl, frugal_end context none)) tt

frugal_all : (who : ℕ) (gone : List Kept) → IsFrugal (releases.releasing_all who gone)
frugal_all who [] = tt
frugal_all who (ticket ∷ tickets) = (refl, λ _. frugal_all who tickets)

pub frugal_giving_up : (gone : List Kept) (context : ContextView) → IsFrugal (releases.releasing_tickets gone context)
frugal_giving_up gone context =
    let left : Outcome (Unit {0}) = (Ok tt, record context { kept = without_tickets gone context.kept }) in
    frugal_bind {A = Unit {0}} {B = Outcome (Unit {0})} (releases.releasing_all context.who gone) (λ _. tidying left) (frugal_all context.who gone)
    (λ _. frugal_tidying left)

-- so does what may be refused first
pub frugal_unless : {A : Type 0} (fault : Option ContextError) (context : ContextView) (program : Program (Outcome A)) → IsFrugal program → IsFrugal (releases.unless fault context program)
frugal_unless (Some fault) context program made = tt
frugal_unless None context program made = made

pub frugal_releasing : (id : ℕ) (context : ContextView) → IsFrugal (releases.releasing id context)
frugal_releasing id context =
    let left : Outcome (Unit {0}) = (Ok tt, record context { kept = without_number id context.kept }) in
    frugal_unless (releases.release_fault id context) context (Ask (Release context.who id) (λ _. tidying left)) (refl, λ _. frugal_tidying left)

frugal_downgrade : (id : ℕ) (mode : Mode) (context : ContextView) (answer : Answer) → IsFrugal (upgrades.downgrade_answered id mode context answer)
frugal_downgrade id mode context Done = tt
frugal_downgrade id mode context _ = tt

pub frugal_downgrading : (id : ℕ) (mode : Mode) (context : ContextView) → IsFrugal (upgrades.downgrading id mode context)
frugal_downgrading id mode context =
    frugal_unless {A = Unit {0}} (releases.release_fault id context) context
    (Ask (Downgrade context.who id mode) (upgrades.downgrade_answered id mode context)) (refl, frugal_downgrade id mode context)

-- ---- wishes

-- a lock at a place wasn't had for want of memory
abbrev IsStarvedGain : Result AskResult SpaceError → Type 0
IsStarvedGain end = end ≡ Err OutOfMemory

faithful_copy : (answer : Answer) → IsFaithful IsStarvedGain (gains.copy_answered answer)
faithful_copy (Granted id) = tt
faithful_copy _ = tt

faithful_wish_sought : (who number : ℕ) (end : SearchEnd) → IsFaithful IsStarvedGain (gains.wish_sought who number end)
faithful_wish_sought who number Over = tt
faithful_wish_sought who number Cut_off = tt
faithful_wish_sought who number (Failed refusal) =
    frugal_faithful {A = Result AskResult SpaceError} IsStarvedGain (gains.abandoning who >> Give (Err refusal)) (frugal_abandoning who (Err refusal))

-- a search that found no memory, and so the wish
each_wish_sought : (who number : ℕ) (end : SearchEnd) → IsStarvedSearch end → Each IsStarvedGain (gains.wish_sought who number end)
each_wish_sought who number end e =
    subst (λ x. Each IsStarvedGain (gains.wish_sought who number x)) (sym e)
    (each_then {A = Unit {0}} {B = Result AskResult SpaceError} IsStarvedGain (gains.abandoning who) (λ _. Give (Err OutOfMemory)) (λ _. refl))

faithful_wish : (who : ℕ) (answer : Answer) → IsFaithful IsStarvedGain (gains.wish_answered who answer)
faithful_wish who (Granted id) = tt
faithful_wish who (Waits number) =
    faithful_bind {A = SearchEnd} {B = Result AskResult SpaceError} IsStarvedSearch IsStarvedGain (seeking most_searches who) (gains.wish_sought who number)
    (faithful_seeking most_searches who) (each_wish_sought who number) (faithful_wish_sought who number)
faithful_wish who _ = tt

faithful_try : (who place : ℕ) (mode : Mode) (answer : Answer) → IsFaithful IsStarvedGain (gains.try_answered who place mode answer)
faithful_try who place mode (Granted id) = tt
faithful_try who place mode Would_wait = (λ _. refl, faithful_wish who)
faithful_try who place mode _ = tt

faithful_gaining : (ticket : Option Held) (who place : ℕ) (mode : Mode) → IsFaithful IsStarvedGain (gains.gaining_from ticket who place mode)
faithful_gaining (Some ticket) who place mode = (λ _. refl, faithful_copy)
faithful_gaining None who place mode = (λ _. refl, faithful_try who place mode)

faithful_reusing : (ticket : Option Held) (place : ℕ) (request : Wish) (context : ContextView) → IsFaithful IsStarved (requests.reusing ticket place request context)
faithful_reusing (Some ticket) place request context = tt
faithful_reusing None place request context =
    let serving = earliest (requests.suffices place request) context.kept in (
      refl,
      faithful_bind {A = Result AskResult SpaceError} {B = Outcome Acquire} IsStarvedGain IsStarved (gains.gaining_from serving context.who place request.mode)
          (λ end. Give (requests.outcome_got place request context end)) (faithful_gaining serving context.who place request.mode)
          (λ end e. ap (λ x. (requests.outcome_got place request context x).0) e) (λ _. tt),
    )

faithful_place : (request : Wish) (context : ContextView) (answer : Answer) → IsFaithful IsStarved (requests.place_answered request context answer)
faithful_place request context (At_place place) =
    let after = requests.remembering request.key place context in
    faithful_looked_up {A = Acquire} requests.got_lock place context (Grow (requests.starved context) (requests.acquiring_at place request after))
    (refl, faithful_reusing (earliest (requests.is_reusable place request) after.kept) place request after)
faithful_place request context _ = tt

faithful_finding : (place : Option ℕ) (request : Wish) (context : ContextView) → IsFaithful IsStarved (requests.finding place request context)
faithful_finding (Some place) request context = faithful_reusing (earliest (requests.is_reusable place request) context.kept) place request context
faithful_finding None request context = (λ _. refl, faithful_place request context)

pub faithful_acquiring : (request : Wish) (context : ContextView) → IsFaithful IsStarved (requests.acquiring request context)
faithful_acquiring request context =
    let place = place_known request.key context.known in
    either {A = Outcome Acquire} (IsFaithful IsStarved) (is_some context.wait) (Give (Err Waiting, context)) (requests.finding place request context)
    tt (faithful_finding place request context)

-- ---- wishes that aren't waited for

-- a lock at a place wasn't had at once for want of memory
abbrev IsStarvedTry : Result Tried SpaceError → Type 0
IsStarvedTry end = end ≡ Err OutOfMemory

faithful_tried : (answer : Answer) → IsFaithful IsStarvedTry (gains.tried_answered answer)
faithful_tried (Granted id) = tt
faithful_tried Would_wait = tt
faithful_tried _ = tt

faithful_trying_from : (ticket : Option Held) (who place : ℕ) (mode : Mode) → IsFaithful IsStarvedTry (gains.trying_from ticket who place mode)
faithful_trying_from (Some ticket) who place mode = (λ _. refl, faithful_tried)
faithful_trying_from None who place mode = (λ _. refl, faithful_tried)

faithful_trying_again : (ticket : Option Held) (place : ℕ) (request : Wish) (context : ContextView) → IsFaithful IsStarved (requests.trying_again ticket place request context)
faithful_trying_again (Some ticket) place request context = tt
faithful_trying_again None place request context =
    let serving = earliest (requests.suffices place request) context.kept in (
      refl,
      faithful_bind {A = Result Tried SpaceError} {B = Outcome Tried} IsStarvedTry IsStarved (gains.trying_from serving context.who place request.mode)
          (λ end. Give (requests.outcome_tried place request context end)) (faithful_trying_from serving context.who place request.mode)
          (λ end e. ap (λ x. (requests.outcome_tried place request context x).0) e) (λ _. tt),
    )

faithful_trying_placed : (request : Wish) (context : ContextView) (answer : Answer) → IsFaithful IsStarved (requests.trying_placed request context answer)
faithful_trying_placed request context (At_place place) =
    let after = requests.remembering request.key place context in
    faithful_looked_up {A = Tried} requests.got_at_once place context (Grow (requests.starved context) (requests.trying_at place request after))
    (refl, faithful_trying_again (earliest (requests.is_reusable place request) after.kept) place request after)
faithful_trying_placed request context _ = tt

faithful_trying_found : (place : Option ℕ) (request : Wish) (context : ContextView) → IsFaithful IsStarved (requests.trying_found place request context)
faithful_trying_found (Some place) request context = faithful_trying_again (earliest (requests.is_reusable place request) context.kept) place request context
faithful_trying_found None request context = (λ _. refl, faithful_trying_placed request context)

pub faithful_trying : (request : Wish) (context : ContextView) → IsFaithful IsStarved (requests.trying request context)
faithful_trying request context =
    let place = place_known request.key context.known in
    either {A = Outcome Tried} (IsFaithful IsStarved) (is_some context.wait) (Give (Err Waiting, context)) (requests.trying_found place request context)
    tt (faithful_trying_found place request context)

-- ---- merges

-- a merge was refused for want of memory
abbrev IsStarvedMerge : Result (Unit {0}) SpaceError → Type 0
IsStarvedMerge end = end ≡ Err OutOfMemory

faithful_merge : (who new : ℕ) (answer : Answer) → IsFaithful IsStarvedMerge (upgrades.merge_answered who new answer)
faithful_merge who new Done = tt
faithful_merge who new _ = (λ takes. cc, λ _. tt)

faithful_merging : (who id new : ℕ) → IsFaithful IsStarvedMerge (upgrades.merging_new who id new)
faithful_merging who id new = (λ _ answer. refl, faithful_merge who new)

-- ---- waits that go on

faithful_won : (upgrade : Option (ℕ × Mode)) (new : ℕ) (context : ContextView) → IsFaithful IsStarved (waits.wait_won upgrade new context)
faithful_won None new context = tt
faithful_won (Some (id, mode)) new context =
    faithful_bind {A = Result (Unit {0}) SpaceError} {B = Outcome Resume} IsStarvedMerge IsStarved (upgrades.merging_new context.who id new)
    (λ end. Give (upgrades.merged (resume_as.Acquired id) id mode (waits.without_wait context) end)) (faithful_merging context.who id new)
    (λ end e. ap (λ x. (upgrades.merged (resume_as.Acquired id) id mode (waits.without_wait context) x).0) e) (λ _. tt)

faithful_end : (context : ContextView) (answer : Answer) → IsFaithful IsStarved (waits.end_answered context answer)
faithful_end context (Granted id) = faithful_won (awaited_upgrade context.wait) id context
faithful_end context (Lost how) =
    let reply : Outcome Resume = (Ok (resume_as.Lost how), waits.without_wait context) in
    frugal_faithful {A = Outcome Resume} IsStarved (tidying reply) (frugal_tidying {A = Resume} reply)
faithful_end context _ = tt

faithful_ending : (context : ContextView) → IsFaithful IsStarved (waits.ending_wait context)
faithful_ending context = (λ takes. cc, faithful_end context)

faithful_poll : (context : ContextView) (answer : Answer) → IsFaithful IsStarved (waits.poll_answered context answer)
faithful_poll context Pending = tt
faithful_poll context (Is_settled how) = faithful_ending context
faithful_poll context _ = tt

faithful_looking : (context : ContextView) → IsFaithful IsStarved (waits.looking context)
faithful_looking context = (λ takes. cc, faithful_poll context)

faithful_wait_sought : (context : ContextView) (end : SearchEnd) → IsFaithful IsStarved (waits.wait_sought context end)
faithful_wait_sought context Over = faithful_looking (waits.with_searches_over context)
faithful_wait_sought context Cut_off = faithful_looking context
faithful_wait_sought context (Failed refusal) =
    let reply : Outcome Resume = (Err (Space refusal), waits.without_wait context) in
    frugal_faithful {A = Outcome Resume} IsStarved (gains.abandoning context.who >> tidying reply)
    (frugal_bind {A = Unit {0}} {B = Outcome Resume} (gains.abandoning context.who) (λ _. tidying reply) (frugal_given_up context.who)
    (λ _. frugal_tidying {A = Resume} reply))

-- a search that found no memory, and so the wait
each_wait_sought : (context : ContextView) (end : SearchEnd) → IsStarvedSearch end → Each IsStarved (waits.wait_sought context end)
each_wait_sought context end e =
    subst (λ x. Each IsStarved (waits.wait_sought context x)) (sym e)
    (each_then {A = Unit {0}} {B = Outcome Resume} IsStarved (gains.abandoning context.who)
    (λ _. tidying (Err (Space OutOfMemory), waits.without_wait context))
    (λ _. each_tidying {A = Resume} IsStarved (Err (Space OutOfMemory)) (waits.without_wait context) refl))

faithful_cut_off : (context : ContextView) (answer : Answer) → IsFaithful IsStarved (waits.cut_off_answered context answer)
faithful_cut_off context Pending =
    faithful_bind {A = SearchEnd} {B = Outcome Resume} IsStarvedSearch IsStarved (seeking most_searches context.who) (waits.wait_sought context)
    (faithful_seeking most_searches context.who) (each_wait_sought context) (faithful_wait_sought context)
faithful_cut_off context (Is_settled how) = faithful_ending context
faithful_cut_off context _ = tt

faithful_going_on : (searched : Option Bool) (context : ContextView) → IsFaithful IsStarved (waits.continuing_wait searched context)
faithful_going_on None context = tt
faithful_going_on (Some true) context = faithful_looking context
faithful_going_on (Some false) context = (λ takes. cc, faithful_cut_off context)

pub faithful_resuming : (context : ContextView) → IsFaithful IsStarved (waits.resuming context)
faithful_resuming context = faithful_going_on (waits.is_searched context.wait) context

pub faithful_giving_up_wait : (context : ContextView) → IsFaithful IsStarved (waits.giving_up_wait context)
faithful_giving_up_wait context =
    either {A = Outcome Resume} (IsFaithful IsStarved) (is_some context.wait) (Ask (Settle_timeout context.who) (λ _. waits.ending_wait context))
    (Give (Err (Space NoWait), context)) (λ takes. cc, λ _. faithful_ending context) tt

-- ---- upgrades

faithful_second : (ticket : Kept) (mode : Mode) (context : ContextView) (end : Result AskResult SpaceError) → IsFaithful IsStarved (upgrades.second_got ticket mode context end)
faithful_second ticket mode context (Ok (got.Granted new)) =
    faithful_bind {A = Result (Unit {0}) SpaceError} {B = Outcome Acquire} IsStarvedMerge IsStarved (upgrades.merging_new context.who ticket.id new)
    (λ end. Give (upgrades.merged (Acquired ticket.id) ticket.id mode context end)) (faithful_merging context.who ticket.id new)
    (λ end e. ap (λ x. (upgrades.merged (Acquired ticket.id) ticket.id mode context x).0) e) (λ _. tt)
faithful_second ticket mode context (Ok (got.Waits number searched)) = tt
faithful_second ticket mode context (Err refusal) = tt

-- there was no memory to wait, and so none for the upgrade
each_second : (ticket : Kept) (mode : Mode) (context : ContextView) (end : Result AskResult SpaceError) → IsStarvedGain end → Each IsStarved (upgrades.second_got ticket mode context end)
each_second ticket mode context end e = subst (λ x. Each IsStarved (upgrades.second_got ticket mode context x)) (sym e) refl

faithful_upgrade : (ticket : Kept) (mode : Mode) (context : ContextView) (answer : Answer) → IsFaithful IsStarved (upgrades.upgrade_answered ticket mode context answer)
faithful_upgrade ticket mode context Upgraded = tt
faithful_upgrade ticket mode context Would_wait = (
  refl,
  faithful_bind {A = Result AskResult SpaceError} {B = Outcome Acquire} IsStarvedGain IsStarved (gains.waiting_at context.who ticket.place mode)
      (upgrades.second_got ticket mode context) (λ _. refl, faithful_wish context.who) (each_second ticket mode context) (faithful_second ticket mode context),
)
faithful_upgrade ticket mode context _ = tt

faithful_unless : {A : Type 0} (fault : Option ContextError) (context : ContextView) (program : Program (Outcome A)) → IsFaithful IsStarved program
    → IsFaithful IsStarved (releases.unless fault context program)
faithful_unless (Some fault) context program made = tt
faithful_unless None context program made = made

faithful_upgrading_ticket : (ticket : Option Kept) (mode : Mode) (context : ContextView) → IsFaithful IsStarved (upgrades.upgrading_ticket ticket mode context)
faithful_upgrading_ticket None mode context = tt
faithful_upgrading_ticket (Some ticket) mode context =
    faithful_unless {A = Acquire} (releases.waiting_fault context) context
    (Ask (Upgrade_now context.who ticket.id mode) (upgrades.upgrade_answered ticket mode context)) (λ _. refl, faithful_upgrade ticket mode context)

pub faithful_upgrading : (id : ℕ) (mode : Mode) (context : ContextView) → IsFaithful IsStarved (upgrades.upgrading id mode context)
faithful_upgrading id mode context = faithful_upgrading_ticket (ticket_kept id context.kept) mode context
