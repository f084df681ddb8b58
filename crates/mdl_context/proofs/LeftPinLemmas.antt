-- The programs by which a context's tickets change mode or end, and by which its waits go on, leave no pin behind.
use Rattle.std.proofs.Common.{◌≡◌, ℕ, Bool, true, false, List, [], ◌∷◌, Option, Some, None, Result, Ok, Err, refl, ap, ◌∙◌, subst, arith}
use Rattle.std.specs.Prelude.{is_some}
use Rattle.std.specs.Option.{IfSome}
use Rattle.mdl_key.specs.declared.mode.Mode.{Mode}
use Rattle.mdl_calls.specs.declared.space_error.SpaceError.{SpaceError}
use Rattle.mdl_calls.specs.declared.space_error.SpaceError.TheVariants.{NoWait, OutOfMemory}
use Rattle.mdl_calls.specs.declared.lock_space.LockSpace.{Ghosts}
use Rattle.mdl_calls.specs.MemberLaws.{LawsOf}
use Rattle.mdl_calls.specs.SessionLocks.{upgraded}
use Rattle.mdl_calls.specs.Words.{Answer, Done, Granted, Upgraded, Would_wait, Waits, Pending, Is_settled, Lost, Call, Downgrade, End_wait, Poll_wait, Release, Settle_timeout, Upgrade_now, caller, Program, Give, Ask, ◌>>=◌, EachCall, SearchEnd, Over, Cut_off, Failed, seeking, most_searches}
use Rattle.mdl_calls.proofs.FaithfulLemmas.{either, calls_bind}
use Rattle.mdl_calls.proofs.SeekingLemmas.{calls_seeking}
use Rattle.mdl_context.specs.declared.asking.AskResult.{AskResult}
use Rattle.mdl_context.specs.declared.asking.AskResult.TheVariants as got
use Rattle.mdl_context.specs.declared.context_error.ContextError.{ContextError}
use Rattle.mdl_context.specs.declared.context_error.ContextError.TheVariants.{NotHeld, Space}
use Rattle.mdl_context.specs.declared.kept.Kept.{Kept}
use Rattle.mdl_context.specs.declared.kept.Wanted.{Wanted}
use Rattle.mdl_context.specs.declared.request.Acquire.{Acquire}
use Rattle.mdl_context.specs.declared.request.Acquire.TheVariants.{Acquired}
use Rattle.mdl_context.specs.declared.request.Resume.{Resume}
use Rattle.mdl_context.specs.declared.request.Resume.TheVariants as resume_as
use Rattle.mdl_context.specs.Contexts.{ContextView, Attends, IsAwaited, ticket_kept, without_tickets}
use Rattle.mdl_context.specs.Gains as gains
use Rattle.mdl_context.specs.Holdings.{awaited_upgrade, without_number}
use Rattle.mdl_context.specs.Releases as releases
use Rattle.mdl_context.specs.Requests.{Outcome, starved}
use Rattle.mdl_context.specs.Tidying.{tidying}
use Rattle.mdl_context.specs.Upgrades as upgrades
use Rattle.mdl_context.specs.Waits as waits
use Rattle.mdl_context.proofs.JustLemmas.{LeavesNone, LeavesPins, NeedsAsMuch, leaves_pins, none-asks, none-gives, none-grows, none-then, none-tidies}
use Rattle.mdl_context.proofs.StayTidyLemmas.{needs-in_mode, needs-over, needs-searched, needs-taken, awaited-searched}

-- all calls of a program are the session's, and leave its pins
abbrev AllLeavePins : {A : Type 0} → ℕ → Program A → Type 0
AllLeavePins who program = EachCall (LeavesPins who) program

-- ---- calls that leave the pins

pins-unwanted : (who : ℕ) (answer : Answer) → AllLeavePins who (gains.unwanted_end_answered who answer)
pins-unwanted who (Granted id) = ((refl, refl), λ _. tt)
pins-unwanted who _ = tt

pins-abandoning : (who : ℕ) → AllLeavePins who (gains.abandoning who)
pins-abandoning who = ((refl, refl), λ _. ((refl, refl), pins-unwanted who))

pins-seeking : (who : ℕ) → AllLeavePins who (seeking most_searches who)
pins-seeking who = calls_seeking (LeavesPins who) who (refl, refl) most_searches

pins-wish_sought : (who number : ℕ) (end : SearchEnd) → AllLeavePins who (gains.wish_sought who number end)
pins-wish_sought who number Over = tt
pins-wish_sought who number Cut_off = tt
pins-wish_sought who number (Failed refusal) =
    calls_bind {A = Unit {0}} {B = Result AskResult SpaceError} (LeavesPins who) (gains.abandoning who) (λ _. Give (Err refusal)) (pins-abandoning who) (λ _. tt)

pins-wish : (who : ℕ) (answer : Answer) → AllLeavePins who (gains.wish_answered who answer)
pins-wish who (Granted id) = tt
pins-wish who (Waits number) =
    calls_bind {A = SearchEnd} {B = Result AskResult SpaceError} (LeavesPins who) (seeking most_searches who) (gains.wish_sought who number)
    (pins-seeking who) (pins-wish_sought who number)
pins-wish who _ = tt

pins-waiting_at : (who place : ℕ) (mode : Mode) → AllLeavePins who (gains.waiting_at who place mode)
pins-waiting_at who place mode = ((refl, refl), pins-wish who)

pins-merge : (who new : ℕ) (answer : Answer) → AllLeavePins who (upgrades.merge_answered who new answer)
pins-merge who new Done = tt
pins-merge who new _ = ((refl, refl), λ _. tt)

pins-merging : (who id new : ℕ) → AllLeavePins who (upgrades.merging_new who id new)
pins-merging who id new = ((refl, refl), pins-merge who new)

pins-releasing : (who : ℕ) (gone : List Kept) → AllLeavePins who (releases.releasing_all who gone)
pins-releasing who [] = tt
pins-releasing who (ticket ∷ tickets) = ((refl, refl), λ _. pins-releasing who tickets)

-- ---- contexts that need as much

-- a context needs what it needed
needs-self : (context : ContextView) → NeedsAsMuch context context
needs-self context = record { who = refl; known = refl; needs = λ place needed. needed }

-- a ticket is in another mode
needs-moded : (id : ℕ) (change : Mode → Mode) (context : ContextView) → NeedsAsMuch context (upgrades.with_ticket_mode id change context)
needs-moded id change context = record { who = refl; known = refl; needs = needs-in_mode id change context }

needs-then : (before mid after : ContextView) → NeedsAsMuch before mid → NeedsAsMuch mid after → NeedsAsMuch before after
needs-then before mid after one other = record {
  who = other.who ∙ one.who;
  known = other.known ∙ one.known;
  needs = λ place needed. other.needs place (one.needs place needed);
}

needs-merged : {A : Type 0} (answer : A) (id : ℕ) (mode : Mode) (before context : ContextView) (end : Result (Unit {0}) SpaceError) → NeedsAsMuch before context
    → let after : Outcome A = upgrades.merged answer id mode context end in NeedsAsMuch before after.1
needs-merged answer id mode before context (Ok done) same = needs-then before context (upgrades.with_ticket_mode id (λ _. mode) context) same (needs-moded id (λ _. mode) context)
needs-merged answer id mode before context (Err refusal) same = same

-- a context without a wait begins one
needs-awaiting : (ticket : Kept) (mode : Mode) (searched : Bool) (context : ContextView) → context.wait ≡ None
    → NeedsAsMuch context (upgrades.awaiting_upgrade ticket mode searched context)
needs-awaiting ticket mode searched context idle = record { who = refl; known = refl; needs = λ place needed. grind (arith, idle, needed) }

-- ---- programs that leave no pin behind

module _ {S : Type 0} (members : Ghosts S) (laws : LawsOf members) (a : S) (before : ContextView) (attends : Attends members a before) where
  -- none of the programs leaves a pin behind
  abbrev NoneLeft : {A : Type 0} → Program (Outcome A) → Type 0
  NoneLeft {A} program = LeavesNone members laws a before attends {A = A} program

  none-unless : {A : Type 0} (fault : Option ContextError) (program : Program (Outcome A)) → (fault ≡ None → NoneLeft {A = A} program)
      → NoneLeft {A = A} (releases.unless fault before program)
  none-unless {A} (Some fault) program made = none-gives members laws a before attends {A = A} (Err fault) before (needs-self before)
  none-unless None program made = made refl

  -- ---- releases

  pub none-giving_up : (gone : List Kept) → NoneLeft {A = Unit {0}} (releases.releasing_tickets gone before)
  none-giving_up gone =
      let left : ContextView = record before { kept = without_tickets gone before.kept } in
      none-then members laws a before attends {A = Unit {0}} {B = Unit {0}} (releases.releasing_all before.who gone) (λ _. tidying (Ok tt, left)) (pins-releasing before.who gone)
      (λ _. none-tidies members laws a before attends {A = Unit {0}} (Ok tt) left refl refl)

  pub none-giving_up_unless : (fault : Option ContextError) (gone : List Kept) → NoneLeft {A = Unit {0}} (releases.unless fault before (releases.releasing_tickets gone before))
  none-giving_up_unless fault gone = none-unless {A = Unit {0}} fault (releases.releasing_tickets gone before) (λ _. none-giving_up gone)

  pub none-releasing : (id : ℕ) → NoneLeft {A = Unit {0}} (releases.releasing id before)
  none-releasing id =
      let left : ContextView = record before { kept = without_number id before.kept } in
      none-unless {A = Unit {0}} (releases.release_fault id before) (Ask (Release before.who id) (λ _. tidying (Ok tt, left)))
      (λ _. none-asks members laws a before attends {A = Unit {0}} (Release before.who id) (λ _. tidying (Ok tt, left)) (refl, refl)
      (λ _. none-tidies members laws a before attends {A = Unit {0}} (Ok tt) left refl refl))

  -- ---- other modes

  none-downgrade : (id : ℕ) (mode : Mode) (answer : Answer) → NoneLeft {A = Unit {0}} (upgrades.downgrade_answered id mode before answer)
  none-downgrade id mode Done = none-gives members laws a before attends {A = Unit {0}} _ _ (needs-moded id (λ _. mode) before)
  none-downgrade id mode _ = none-gives members laws a before attends {A = Unit {0}} _ before (needs-self before)

  pub none-downgrading : (id : ℕ) (mode : Mode) → NoneLeft {A = Unit {0}} (upgrades.downgrading id mode before)
  none-downgrading id mode =
      none-unless {A = Unit {0}} (releases.release_fault id before) (Ask (Downgrade before.who id mode) (upgrades.downgrade_answered id mode before))
      (λ _. none-asks members laws a before attends {A = Unit {0}} (Downgrade before.who id mode) (upgrades.downgrade_answered id mode before) (refl, refl) (none-downgrade id mode))

  module _ (ticket : Kept) (mode : Mode) (idle : before.wait ≡ None) where
    none-second : (end : Result AskResult SpaceError) → NoneLeft {A = Acquire} (upgrades.second_got ticket mode before end)
    none-second (Ok (got.Granted new)) =
        none-then members laws a before attends {A = Result (Unit {0}) SpaceError} {B = Acquire} (upgrades.merging_new before.who ticket.id new)
        (λ end. Give (upgrades.merged (Acquired ticket.id) ticket.id mode before end)) (pins-merging before.who ticket.id new)
        (λ end. none-gives members laws a before attends {A = Acquire} _ _ (needs-merged {A = Acquire} (Acquired ticket.id) ticket.id mode before before end (needs-self before)))
    none-second (Ok (got.Waits number searched)) = none-gives members laws a before attends {A = Acquire} _ _ (needs-awaiting ticket mode searched before idle)
    none-second (Err refusal) = none-gives members laws a before attends {A = Acquire} _ before (needs-self before)

    none-upgrade : (answer : Answer) → NoneLeft {A = Acquire} (upgrades.upgrade_answered ticket mode before answer)
    none-upgrade Upgraded = none-gives members laws a before attends {A = Acquire} _ _ (needs-moded ticket.id (upgraded mode) before)
    none-upgrade Would_wait =
        none-grows members laws a before attends {A = Acquire} (starved before) (gains.waiting_at before.who ticket.place mode >>= upgrades.second_got ticket mode before)
        (none-gives members laws a before attends {A = Acquire} (Err (Space OutOfMemory)) before (needs-self before))
        (none-then members laws a before attends {A = Result AskResult SpaceError} {B = Acquire} (gains.waiting_at before.who ticket.place mode) (upgrades.second_got ticket mode before)
        (pins-waiting_at before.who ticket.place mode) none-second)
    none-upgrade _ = none-gives members laws a before attends {A = Acquire} _ before (needs-self before)

  -- a context that isn't refused for its wait has none
  idle-unless : releases.waiting_fault before ≡ None → before.wait ≡ None
  idle-unless none = by before.wait refl where
    by : (wait : Option Wanted) → before.wait ≡ wait → wait ≡ None
    by None e = refl
    by (Some wanted) e = let no = ap (λ (w : Option Wanted). releases.waiting_fault (record before { wait = w })) e in cc

  none-upgrading_ticket : (found : Option Kept) (mode : Mode) → NoneLeft {A = Acquire} (upgrades.upgrading_ticket found mode before)
  none-upgrading_ticket None mode = none-gives members laws a before attends {A = Acquire} (Err NotHeld) before (needs-self before)
  none-upgrading_ticket (Some ticket) mode =
      none-unless {A = Acquire} (releases.waiting_fault before) (Ask (Upgrade_now before.who ticket.id mode) (upgrades.upgrade_answered ticket mode before))
      (λ none. none-asks members laws a before attends {A = Acquire} (Upgrade_now before.who ticket.id mode) (upgrades.upgrade_answered ticket mode before) (refl, refl)
      (none-upgrade ticket mode (idle-unless none)))

  pub none-upgrading : (id : ℕ) (mode : Mode) → NoneLeft {A = Acquire} (upgrades.upgrading id mode before)
  none-upgrading id mode = none-upgrading_ticket (ticket_kept id before.kept) mode

  -- ---- waits

  module _ (context : ContextView) (same : NeedsAsMuch before context) (wish : IfSome context.wait (IsAwaited context.known context.kept)) where
    -- a call of the context is one of the session
    ours : (call : Call) → caller call ≡ Some context.who → leaves_pins call ≡ true → LeavesPins before.who call
    ours call made stays = (made ∙ ap (λ w. Some w) same.who, stays)

    none-over : (id : ℕ) (mode : Mode) → awaited_upgrade context.wait ≡ Some (id, mode) → NeedsAsMuch before (waits.without_wait context)
    none-over id mode e =
        needs-then before context (waits.without_wait context) same (record { who = refl; known = refl; needs = needs-over context context.wait id mode refl e wish })

    none-won : (upgrade : Option (ℕ × Mode)) → awaited_upgrade context.wait ≡ upgrade → (new : ℕ) → NoneLeft {A = Resume} (waits.wait_won upgrade new context)
    none-won None e new =
        none-gives members laws a before attends {A = Resume} _ _
        (needs-then before context (waits.taking_up new context) same (record { who = refl; known = refl; needs = needs-taken new context context.wait refl }))
    none-won (Some (id, mode)) e new =
        none-then members laws a before attends {A = Result (Unit {0}) SpaceError} {B = Resume} (upgrades.merging_new context.who id new)
        (λ end. Give (upgrades.merged (resume_as.Acquired id) id mode (waits.without_wait context) end))
        (subst (λ w. EachCall (LeavesPins w) (upgrades.merging_new context.who id new)) same.who (pins-merging context.who id new))
        (λ end. none-gives members laws a before attends {A = Resume} _ _
        (needs-merged {A = Resume} (resume_as.Acquired id) id mode before (waits.without_wait context) end (none-over id mode e)))

    none-lost : (reply : Result Resume ContextError) → NoneLeft {A = Resume} (tidying (reply, waits.without_wait context))
    none-lost reply = none-tidies members laws a before attends {A = Resume} reply (waits.without_wait context) same.who same.known

    none-answered : (answer : Answer) → NoneLeft {A = Resume} (waits.end_answered context answer)
    none-answered (Granted id) = none-won (awaited_upgrade context.wait) refl id
    none-answered (Lost how) = none-lost (Ok (resume_as.Lost how))
    none-answered _ = none-gives members laws a before attends {A = Resume} _ context same

    none-ending : NoneLeft {A = Resume} (waits.ending_wait context)
    none-ending =
        none-asks members laws a before attends {A = Resume} (End_wait context.who) (waits.end_answered context) (ours (End_wait context.who) refl refl) none-answered

    none-polled : (answer : Answer) → NoneLeft {A = Resume} (waits.poll_answered context answer)
    none-polled Pending = none-gives members laws a before attends {A = Resume} _ context same
    none-polled (Is_settled how) = none-ending
    none-polled _ = none-gives members laws a before attends {A = Resume} _ context same

    none-looking : NoneLeft {A = Resume} (waits.looking context)
    none-looking =
        none-asks members laws a before attends {A = Resume} (Poll_wait context.who) (waits.poll_answered context) (ours (Poll_wait context.who) refl refl) none-polled

  none-sought : (end : SearchEnd) → NoneLeft {A = Resume} (waits.wait_sought before end)
  none-sought Over =
      none-looking (waits.with_searches_over before) (record { who = refl; known = refl; needs = needs-searched before })
      (awaited-searched before.known before.kept before.wait attends.wish)
  none-sought Cut_off = none-looking before (needs-self before) attends.wish
  none-sought (Failed refusal) =
      none-then members laws a before attends {A = Unit {0}} {B = Resume} (gains.abandoning before.who) (λ _. tidying (Err (Space refusal), waits.without_wait before))
      (pins-abandoning before.who) (λ _. none-lost before (needs-self before) attends.wish (Err (Space refusal)))

  none-cut_off : (answer : Answer) → NoneLeft {A = Resume} (waits.cut_off_answered before answer)
  none-cut_off Pending =
      none-then members laws a before attends {A = SearchEnd} {B = Resume} (seeking most_searches before.who) (waits.wait_sought before) (pins-seeking before.who) none-sought
  none-cut_off (Is_settled how) = none-ending before (needs-self before) attends.wish
  none-cut_off _ = none-gives members laws a before attends {A = Resume} _ before (needs-self before)

  none-going_on : (searched : Option Bool) → NoneLeft {A = Resume} (waits.continuing_wait searched before)
  none-going_on None = none-gives members laws a before attends {A = Resume} (Err (Space NoWait)) before (needs-self before)
  none-going_on (Some true) = none-looking before (needs-self before) attends.wish
  none-going_on (Some false) =
      none-asks members laws a before attends {A = Resume} (Poll_wait before.who) (waits.cut_off_answered before) (refl, refl) none-cut_off

  pub none-resuming : NoneLeft {A = Resume} (waits.resuming before)
  none-resuming = none-going_on (waits.is_searched before.wait)

  pub none-giving_up_wait : NoneLeft {A = Resume} (waits.giving_up_wait before)
  none-giving_up_wait =
      either {A = Outcome Resume} (λ program. NoneLeft {A = Resume} program) (is_some before.wait) (Ask (Settle_timeout before.who) (λ _. waits.ending_wait before))
      (Give (Err (Space NoWait), before))
      (none-asks members laws a before attends {A = Resume} (Settle_timeout before.who) (λ _. waits.ending_wait before) (refl, refl)
      (λ _. none-ending before (needs-self before) attends.wish))
      (none-gives members laws a before attends {A = Resume} (Err (Space NoWait)) before (needs-self before))
