-- What a context does leaves a space without a deadlock: where a wait begins, it searches until there is none.
use Rattle.std.proofs.Common.{◌≡◌, ℕ, true, false, List, Option, Some, None, Result, Ok, Err, refl, sym, ap, subst, ◌∙◌}
use Rattle.std.specs.Prelude.{Bool, is_some}
use Rattle.mdl_key.specs.declared.mode.Mode.{Mode}
use Rattle.mdl_calls.specs.declared.answers.Held.{Held}
use Rattle.mdl_calls.specs.declared.space_error.SpaceError.{SpaceError}
use Rattle.mdl_calls.specs.Words.{Answer, At_place, Done, Granted, Upgraded, Would_wait, Waits, Pending, Is_settled, Lost, Begin_wait, Call, Clone_ticket, Downgrade, Merge, Release, Upgrade_now, Resolve, Try_now, Unpin, Program, Give, Ask, ◌>>◌, EachCall, SearchEnd, Over, Cut_off, Failed, outcome_of, seeking, most_searches}
use Rattle.mdl_calls.proofs.FaithfulLemmas.{either, calls_bind}
use Rattle.mdl_calls.proofs.SeekingLemmas.{calls_seeking}
use Rattle.mdl_core.specs.CoreCalls.{outcome}
use Rattle.mdl_core.specs.CoreJoins.{Joins}
use Rattle.mdl_core.specs.Cores.{Core}
use Rattle.mdl_core.specs.RunLaws.{IsMadeFor}
use Rattle.mdl_core.proofs.CallDeadlocks.{waiting-leaves}
use Rattle.mdl_context.specs.declared.asking.AskResult.{AskResult}
use Rattle.mdl_context.specs.declared.asking.AskResult.TheVariants as got
use Rattle.mdl_context.specs.declared.context_error.ContextError.{ContextError}
use Rattle.mdl_context.specs.declared.context_error.ContextError.TheVariants.{Waiting, Space}
use Rattle.mdl_context.specs.declared.kept.Kept.{Kept}
use Rattle.mdl_context.specs.declared.request.Acquire.{Acquire}
use Rattle.mdl_context.specs.declared.request.Acquire.TheVariants.{Acquired}
use Rattle.mdl_context.specs.declared.request.Resume.{Resume}
use Rattle.mdl_context.specs.declared.request.Resume.TheVariants as resume
use Rattle.mdl_context.specs.declared.request.Tried.{Tried}
use Rattle.mdl_context.specs.Contexts.{ContextView, place_known, ticket_kept}
use Rattle.mdl_context.specs.Gains as gains
use Rattle.mdl_context.specs.Holdings.{awaited_upgrade, earliest}
use Rattle.mdl_context.specs.Releases as releases
use Rattle.mdl_context.specs.Requests as requests
use Rattle.mdl_context.specs.Requests.{Outcome}
use Rattle.mdl_context.specs.Tidying.{tidying}
use Rattle.mdl_context.specs.Upgrades as upgrades
use Rattle.mdl_context.specs.Waits as waits
use Rattle.mdl_context.specs.Wishes.{Wish}
use Rattle.mdl_context.proofs.MemoryLemmas.{frugal_giving_up, frugal_releasing, frugal_tidying}
use Rattle.mdl_context.proofs.OwnCallLemmas.{own_giving_up, own_releasing, own_resuming}
use Rattle.mdl_script_laws.proofs.NoDeadlockCalls.{IsCalm, IsQuiet, calm-call, calm-joined, still-managed}
use Rattle.mdl_script_laws.proofs.NoDeadlockPrograms.{LeavesCalm, calm-bind, calm-frugal, calm-own, frugal-calls, seeks}
use Rattle.mdl_script_laws.proofs.OutcomeLemmas.{joins-outcome, outcome-then}

-- ---- a lock at a place

-- a wait begins, and its session searches until it is part of no deadlock
calm-waits : (who place number : ℕ) (mode : Mode) (a b : Core) → Joins a (Begin_wait who place mode) (Waits number) b → IsCalm who a
    → IsCalm who (outcome_of outcome (gains.waiting_on who number) b).1
calm-waits who place number mode a b joins calm =
    let h = seeks who b (still-managed who a b (Begin_wait who place mode) (Waits number) calm.managed joins) in
    let end : SearchEnd × Core = outcome_of outcome (seeking most_searches who) b in
    let same : outcome_of outcome (gains.waiting_on who number) b ≡ outcome_of outcome (gains.wish_sought who number Over) end.1 =
    outcome-then outcome (seeking most_searches who) (gains.wish_sought who number) b
    ∙ ap (λ said. outcome_of outcome (gains.wish_sought who number said) end.1) h.over in
    subst (IsCalm who) (sym (ap (λ whole. whole.1) same))
    (record { managed = h.managed; free = waiting-leaves a b end.1 who place number mode joins h.run calm.free })

calm-begun : (who place : ℕ) (mode : Mode) (a b : Core) (answer : Answer) → Joins a (Begin_wait who place mode) answer b → IsCalm who a
    → IsCalm who (outcome_of outcome (gains.wish_answered who answer) b).1
calm-begun who place mode a b (Waits number) joins calm = calm-waits who place number mode a b joins calm
calm-begun who place mode a b (Granted id) joins calm = calm-joined who a b (Begin_wait who place mode) (Granted id) (λ session. refl) joins calm
calm-begun who place mode a b answer joins calm = calm-joined who a b (Begin_wait who place mode) answer (λ session. refl) joins calm

calm-waiting : (who place : ℕ) (mode : Mode) → LeavesCalm who (gains.waiting_at who place mode)
calm-waiting who place mode a calm =
    let call = Begin_wait who place mode in
    calm-begun who place mode a (outcome call a).1 (outcome call a).0 (joins-outcome who a call calm.managed.speaks refl) calm

calm-tried : (who place : ℕ) (mode : Mode) (answer : Answer) → LeavesCalm who (gains.try_answered who place mode answer)
calm-tried who place mode (Granted id) = λ a calm. calm
calm-tried who place mode Would_wait = calm-waiting who place mode
calm-tried who place mode _ = λ a calm. calm

calm-copied : (who : ℕ) (answer : Answer) → LeavesCalm who (gains.copy_answered answer)
calm-copied who (Granted id) = λ a calm. calm
calm-copied who _ = λ a calm. calm

-- a call that begins no wait, and then what its answer leads to
pub calm-ask : {A : Type 0} (who : ℕ) (call : Call) (next : Answer → Program A) → IsMadeFor who call → IsQuiet call
    → ((answer : Answer) → LeavesCalm who (next answer))
    → LeavesCalm who (Ask call next)
calm-ask who call next made quiet later a calm = later (outcome call a).0 (outcome call a).1 (calm-call who call a made quiet calm)

calm-gaining : (ticket : Option Held) (who place : ℕ) (mode : Mode) → LeavesCalm who (gains.gaining_from ticket who place mode)
calm-gaining (Some ticket) who place mode =
    calm-ask who (Clone_ticket who ticket.id mode) gains.copy_answered refl (λ answer session. refl) (calm-copied who)
calm-gaining None who place mode =
    calm-ask who (Try_now who place mode) (gains.try_answered who place mode) refl (λ answer session. refl) (calm-tried who place mode)

-- ---- wishes

calm-reusing : (ticket : Option Held) (place : ℕ) (request : Wish) (context : ContextView)
    → LeavesCalm context.who (requests.reusing ticket place request context)
calm-reusing (Some ticket) place request context = λ a calm. calm
calm-reusing None place request context =
    let serving = earliest (requests.suffices place request) context.kept in
    calm-bind context.who (gains.gaining_from serving context.who place request.mode)
    (λ end. Give (requests.outcome_got place request context end)) (calm-gaining serving context.who place request.mode) (λ end a calm. calm)

-- a place where a request got nothing is let go
calm-letting_go : {A : Type 0} (has_got : Result A ContextError → Bool) (place : ℕ) (context : ContextView) (outcome : Outcome A)
    → LeavesCalm context.who (requests.letting_go has_got place context outcome)
calm-letting_go {A} has_got place context (reply, after) =
    either {A = Outcome A} (LeavesCalm context.who) (has_got reply) (Give (reply, after)) (Ask (Unpin context.who place) (λ _. Give (reply, context)))
    (λ a calm. calm)
    (calm-ask {A = Outcome A} context.who (Unpin context.who place) (λ _. Give (reply, context)) refl (λ answer session. refl) (λ _ a calm. calm))

calm-place : (request : Wish) (context : ContextView) (answer : Answer) → LeavesCalm context.who (requests.place_answered request context answer)
calm-place request context (At_place place) =
    let after = requests.remembering request.key place context in
    calm-bind {A = Outcome Acquire} {B = Outcome Acquire} context.who (requests.acquiring_at place request after)
    (requests.letting_go requests.got_lock place context)
    (calm-reusing (earliest (requests.is_reusable place request) after.kept) place request after)
    (calm-letting_go {A = Acquire} requests.got_lock place context)
calm-place request context _ = λ a calm. calm

calm-finding : (place : Option ℕ) (request : Wish) (context : ContextView) → LeavesCalm context.who (requests.finding place request context)
calm-finding (Some place) request context = calm-reusing (earliest (requests.is_reusable place request) context.kept) place request context
calm-finding None request context =
    calm-ask {A = Outcome Acquire} context.who (Resolve context.who request.key) (requests.place_answered request context) refl (λ answer session. refl)
    (calm-place request context)

-- a lock is wished for
pub calm-acquiring : (request : Wish) (context : ContextView) → LeavesCalm context.who (requests.acquiring request context)
calm-acquiring request context =
    let place = place_known request.key context.known in
    either {A = Outcome Acquire} (LeavesCalm context.who) (is_some context.wait) (Give (Err Waiting, context)) (requests.finding place request context)
    (λ a calm. calm) (calm-finding place request context)

-- ---- wishes without a wait

calm-answered : (who : ℕ) (answer : Answer) → LeavesCalm who (gains.tried_answered answer)
calm-answered who (Granted id) = λ a calm. calm
calm-answered who Would_wait = λ a calm. calm
calm-answered who _ = λ a calm. calm

calm-trying_from : (ticket : Option Held) (who place : ℕ) (mode : Mode) → LeavesCalm who (gains.trying_from ticket who place mode)
calm-trying_from (Some ticket) who place mode =
    calm-ask who (Clone_ticket who ticket.id mode) gains.tried_answered refl (λ answer session. refl) (calm-answered who)
calm-trying_from None who place mode =
    calm-ask who (Try_now who place mode) gains.tried_answered refl (λ answer session. refl) (calm-answered who)

calm-trying_again : (ticket : Option Held) (place : ℕ) (request : Wish) (context : ContextView)
    → LeavesCalm context.who (requests.trying_again ticket place request context)
calm-trying_again (Some ticket) place request context = λ a calm. calm
calm-trying_again None place request context =
    let serving = earliest (requests.suffices place request) context.kept in
    calm-bind context.who (gains.trying_from serving context.who place request.mode)
    (λ end. Give (requests.outcome_tried place request context end)) (calm-trying_from serving context.who place request.mode) (λ end a calm. calm)

calm-trying_placed : (request : Wish) (context : ContextView) (answer : Answer)
    → LeavesCalm context.who (requests.trying_placed request context answer)
calm-trying_placed request context (At_place place) =
    let after = requests.remembering request.key place context in
    calm-bind {A = Outcome Tried} {B = Outcome Tried} context.who (requests.trying_at place request after)
    (requests.letting_go requests.got_at_once place context)
    (calm-trying_again (earliest (requests.is_reusable place request) after.kept) place request after)
    (calm-letting_go {A = Tried} requests.got_at_once place context)
calm-trying_placed request context _ = λ a calm. calm

calm-trying_found : (place : Option ℕ) (request : Wish) (context : ContextView)
    → LeavesCalm context.who (requests.trying_found place request context)
calm-trying_found (Some place) request context =
    calm-trying_again (earliest (requests.is_reusable place request) context.kept) place request context
calm-trying_found None request context =
    calm-ask {A = Outcome Tried} context.who (Resolve context.who request.key) (requests.trying_placed request context) refl (λ answer session. refl)
    (calm-trying_placed request context)

pub calm-trying : (request : Wish) (context : ContextView) → LeavesCalm context.who (requests.trying request context)
calm-trying request context =
    let place = place_known request.key context.known in
    either {A = Outcome Tried} (LeavesCalm context.who) (is_some context.wait) (Give (Err Waiting, context)) (requests.trying_found place request context)
    (λ a calm. calm) (calm-trying_found place request context)

-- ---- other modes

calm-merged : (who new : ℕ) (answer : Answer) → LeavesCalm who (upgrades.merge_answered who new answer)
calm-merged who new Done = λ a calm. calm
calm-merged who new answer =
    calm-ask {A = Result (Unit {0}) SpaceError} who (Release who new) (λ _. Give (Err (gains.refusal_answered answer))) refl (λ answer session. refl)
    (λ _ a calm. calm)

calm-merging : (who id new : ℕ) → LeavesCalm who (upgrades.merging_new who id new)
calm-merging who id new = calm-ask who (Merge who id new) (upgrades.merge_answered who new) refl (λ answer session. refl) (calm-merged who new)

calm-second : (ticket : Kept) (mode : Mode) (context : ContextView) (end : Result AskResult SpaceError)
    → LeavesCalm context.who (upgrades.second_got ticket mode context end)
calm-second ticket mode context (Ok (got.Granted new)) =
    calm-bind context.who (upgrades.merging_new context.who ticket.id new) (λ end. Give (upgrades.merged (Acquired ticket.id) ticket.id mode context end))
    (calm-merging context.who ticket.id new) (λ end a calm. calm)
calm-second ticket mode context (Ok (got.Waits number searched)) = λ a calm. calm
calm-second ticket mode context (Err refusal) = λ a calm. calm

calm-upgrade_answered : (ticket : Kept) (mode : Mode) (context : ContextView) (answer : Answer)
    → LeavesCalm context.who (upgrades.upgrade_answered ticket mode context answer)
calm-upgrade_answered ticket mode context Upgraded = λ a calm. calm
calm-upgrade_answered ticket mode context Would_wait =
    calm-bind context.who (gains.waiting_at context.who ticket.place mode) (upgrades.second_got ticket mode context)
    (calm-waiting context.who ticket.place mode) (calm-second ticket mode context)
calm-upgrade_answered ticket mode context _ = λ a calm. calm

-- what may be refused first
calm-unless : {A : Type 0} (fault : Option ContextError) (context : ContextView) (program : Program (Outcome A)) → LeavesCalm context.who program
    → LeavesCalm context.who (releases.unless fault context program)
calm-unless (Some fault) context program made = λ a calm. calm
calm-unless None context program made = made

calm-upgrading_ticket : (ticket : Option Kept) (mode : Mode) (context : ContextView) → LeavesCalm context.who (upgrades.upgrading_ticket ticket mode context)
calm-upgrading_ticket None mode context = λ a calm. calm
calm-upgrading_ticket (Some ticket) mode context =
    let asks : Program (Outcome Acquire) = Ask (Upgrade_now context.who ticket.id mode) (upgrades.upgrade_answered ticket mode context) in
    calm-unless {A = Acquire} (releases.waiting_fault context) context asks
    (calm-ask {A = Outcome Acquire} context.who (Upgrade_now context.who ticket.id mode) (upgrades.upgrade_answered ticket mode context) refl
    (λ answer session. refl) (calm-upgrade_answered ticket mode context))

pub calm-upgrading : (id : ℕ) (mode : Mode) (context : ContextView) → LeavesCalm context.who (upgrades.upgrading id mode context)
calm-upgrading id mode context = calm-upgrading_ticket (ticket_kept id context.kept) mode context

calm-downgraded : (id : ℕ) (mode : Mode) (context : ContextView) (answer : Answer)
    → LeavesCalm context.who (upgrades.downgrade_answered id mode context answer)
calm-downgraded id mode context Done = λ a calm. calm
calm-downgraded id mode context _ = λ a calm. calm

pub calm-downgrading : (id : ℕ) (mode : Mode) (context : ContextView) → LeavesCalm context.who (upgrades.downgrading id mode context)
calm-downgrading id mode context =
    let asks : Program (Outcome (Unit {0})) = Ask (Downgrade context.who id mode) (upgrades.downgrade_answered id mode context) in
    calm-unless {A = Unit {0}} (releases.release_fault id context) context asks
    (calm-ask {A = Outcome (Unit {0})} context.who (Downgrade context.who id mode) (upgrades.downgrade_answered id mode context) refl
    (λ answer session. refl) (calm-downgraded id mode context))

-- ---- waits that go on

-- no wait begins by any call of it
abbrev AreQuiet : {A : Type 0} → Program A → Type 0
AreQuiet program = EachCall IsQuiet program

quiet-unwanted : (who : ℕ) (answer : Answer) → AreQuiet (gains.unwanted_end_answered who answer)
quiet-unwanted who (Granted id) = (λ answer session. refl, λ _. tt)
quiet-unwanted who _ = tt

-- places are let go
quiet-tidying : (outcome : Outcome Resume) → AreQuiet (tidying outcome)
quiet-tidying outcome = frugal-calls {A = Outcome Resume} (tidying outcome) (frugal_tidying {A = Resume} outcome)

quiet-abandoning : (context : ContextView) (outcome : Outcome Resume) → AreQuiet (gains.abandoning context.who >> tidying outcome)
quiet-abandoning context outcome =
    calls_bind {A = Unit {0}} {B = Outcome Resume} IsQuiet (gains.abandoning context.who) (λ _. tidying outcome)
    (λ answer session. refl, λ _. (λ answer session. refl, quiet-unwanted context.who)) (λ _. quiet-tidying outcome)

quiet-merge : (who new : ℕ) (answer : Answer) → AreQuiet (upgrades.merge_answered who new answer)
quiet-merge who new Done = tt
quiet-merge who new _ = (λ answer session. refl, λ _. tt)

quiet-won : (upgrade : Option (ℕ × Mode)) (new : ℕ) (context : ContextView) → AreQuiet (waits.wait_won upgrade new context)
quiet-won None new context = tt
quiet-won (Some (id, mode)) new context =
    calls_bind {A = Result (Unit {0}) SpaceError} {B = Outcome Resume} IsQuiet (upgrades.merging_new context.who id new)
    (λ end. Give (upgrades.merged (resume.Acquired id) id mode (waits.without_wait context) end))
    (λ answer session. refl, quiet-merge context.who new) (λ _. tt)

quiet-end : (context : ContextView) (answer : Answer) → AreQuiet (waits.end_answered context answer)
quiet-end context (Granted id) = quiet-won (awaited_upgrade context.wait) id context
quiet-end context (Lost how) = quiet-tidying (Ok (resume.Lost how), waits.without_wait context)
quiet-end context _ = tt

quiet-poll : (context : ContextView) (answer : Answer) → AreQuiet (waits.poll_answered context answer)
quiet-poll context Pending = tt
quiet-poll context (Is_settled how) = (λ answer session. refl, quiet-end context)
quiet-poll context _ = tt

quiet-looking : (context : ContextView) → AreQuiet (waits.looking context)
quiet-looking context = (λ answer session. refl, quiet-poll context)

quiet-sought : (context : ContextView) (end : SearchEnd) → AreQuiet (waits.wait_sought context end)
quiet-sought context Over = quiet-looking (waits.with_searches_over context)
quiet-sought context Cut_off = quiet-looking context
quiet-sought context (Failed refusal) = quiet-abandoning context (Err (Space refusal), waits.without_wait context)

quiet-cut_off : (context : ContextView) (answer : Answer) → AreQuiet (waits.cut_off_answered context answer)
quiet-cut_off context Pending =
    calls_bind {A = SearchEnd} {B = Outcome Resume} IsQuiet (seeking most_searches context.who) (waits.wait_sought context)
    (calls_seeking IsQuiet context.who (λ answer session. refl) most_searches) (quiet-sought context)
quiet-cut_off context (Is_settled how) = (λ answer session. refl, quiet-end context)
quiet-cut_off context _ = tt

quiet-going_on : (searched : Option Bool) (context : ContextView) → AreQuiet (waits.continuing_wait searched context)
quiet-going_on None context = tt
quiet-going_on (Some true) context = quiet-looking context
quiet-going_on (Some false) context = (λ answer session. refl, quiet-cut_off context)

-- a wait goes on
pub calm-resuming : (context : ContextView) → LeavesCalm context.who (waits.resuming context)
calm-resuming context =
    calm-own {A = Outcome Resume} context.who (waits.resuming context) (own_resuming context) (quiet-going_on (waits.is_searched context.wait) context)

-- ---- releases

pub calm-giving_up : (gone : List Kept) (context : ContextView) → LeavesCalm context.who (releases.releasing_tickets gone context)
calm-giving_up gone context =
    calm-frugal {A = Outcome (Unit {0})} context.who (releases.releasing_tickets gone context) (own_giving_up gone context) (frugal_giving_up gone context)

pub calm-releasing : (id : ℕ) (context : ContextView) → LeavesCalm context.who (releases.releasing id context)
calm-releasing id context =
    calm-frugal {A = Outcome (Unit {0})} context.who (releases.releasing id context) (own_releasing id context) (frugal_releasing id context)
