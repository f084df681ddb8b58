-- How many locks are left to ask for, however far a statement comes; and that a session whose wait is settled has one less to ask for
-- once it goes on.
use Rattle.std.proofs.Common.{◌≡◌, ℕ, suc, ◌≤◌, Bool, true, false, Option, Some, None, Result, Ok, Err, refl, subst, sym, arith}
use Rattle.std.specs.Prelude.{is_some, if◌then◌else◌}
use Rattle.mdl_key.specs.declared.mode.Mode.{Mode}
use Rattle.mdl_calls.specs.declared.answers.Settled.{Settled}
use Rattle.mdl_calls.specs.declared.space_error.SpaceError.{SpaceError}
use Rattle.mdl_calls.specs.Words.{Answer, Granted, Lost, Is_settled, Give, Each, outcome_of, Program}
use Rattle.mdl_calls.proofs.FaithfulLemmas.{each_then}
use Rattle.mdl_core.specs.declared.pending.Pending.{Pending}
use Rattle.mdl_core.specs.CoreCalls.{end_wait_outcome, has_settled, outcome, poll_wait_outcome, polling_of}
use Rattle.mdl_core.specs.Cores.{Core, has_session, seat_at}
use Rattle.mdl_core.specs.Seats.{is_settled_wait}
use Rattle.mdl_context.specs.declared.request.Mark.{Mark}
use Rattle.mdl_context.specs.declared.request.Resume.{Resume}
use Rattle.mdl_context.specs.declared.request.Resume.TheVariants as resume
use Rattle.mdl_context.specs.Contexts.{ContextView, waits_for_user_lock}
use Rattle.mdl_context.specs.Holdings.{awaited_upgrade}
use Rattle.mdl_context.specs.Releases.{releasing, releasing_tickets}
use Rattle.mdl_context.specs.Requests.{Outcome}
use Rattle.mdl_context.specs.Tidying.{tidied, tidying, unneeded, unpinning_all}
use Rattle.mdl_context.specs.Upgrades as upgrades
use Rattle.mdl_context.specs.Waits as waits
use Rattle.mdl_context.specs.Waits.{resuming}
use Rattle.mdl_rows.specs.declared.ending.Ending.{Ending}
use Rattle.mdl_rows.specs.declared.ending.Ending.TheVariants.{Answers, Misses, Falls, Starves}
use Rattle.mdl_rows.specs.declared.reply.Reply.{Reply}
use Rattle.mdl_rows.specs.Endings.{Pause, Ends, Begins_to_wait, Waits_on, Faults, closing, pause_after, ending_of_error, ending_of_loss, gone_at, letting_go, state_after, without_half}
use Rattle.mdl_rows.specs.MemoryLaws.{session_of_pause}
use Rattle.mdl_rows.specs.Playing as playing
use Rattle.mdl_rows.specs.Playing.{going_on, play, with_context}
use Rattle.mdl_rows.specs.Rows.{Row}
use Rattle.mdl_rows.specs.Rows as row
use Rattle.mdl_rows.specs.Sessions.{Left, Session}
use Rattle.mdl_rows.specs.States.{State, half_lock, without_read_lock}
use Rattle.mdl_script_laws.specs.Turns.{AsksForAtMost, AreFewTables}
use Rattle.mdl_script_laws.proofs.OutcomeLemmas.{outcome-then, each-outcome, EachBy, each-by}
use Rattle.mdl_script_laws.proofs.RowPauses.{AnyEnding, Follows, Rules, any-endings, so-play, Told}
use Rattle.mdl_script_laws.proofs.TurnPlaces.{HasFewPlaces, by-outcome, few-outcome}
use Rattle.mdl_script_laws.proofs.TurnRows.{few-more}

-- what is left of a statement is within a bound: the lock that it waits for, and those that it still asks for
abbrev pub IsLeftWithin : ℕ → Option Left → Type 0
IsLeftWithin most None = Unit {0}
IsLeftWithin most (Some left) = (fewer : ℕ) × (most ≡ suc fewer) × ((id : ℕ) → AsksForAtMost fewer (left.rest id))

-- and so however far it has come: where it begins to wait there is such a lock
abbrev pub PausesWithin : ℕ → Pause → Type 0
PausesWithin most (Begins_to_wait key mode session) = (1 ≤ most) × IsLeftWithin most session.left
PausesWithin most pause = IsLeftWithin most (session_of_pause pause).left

pub left-within : (most : ℕ) (pause : Pause) → PausesWithin most pause → IsLeftWithin most (session_of_pause pause).left
left-within most (Begins_to_wait key mode session) is = is.1
left-within most (Ends reply session) is = is
left-within most (Waits_on session) is = is
left-within most (Faults session) is = is

-- ---- all that may be asked for

within-ended : (most : ℕ) (ending : Ending) (context : ContextView) (state : State)
    → PausesWithin most (pause_after ending (record { context = context; state = state; left = None }))
within-ended most (Answers reply) context state = tt
within-ended most (Misses number) context state = tt
within-ended most Falls context state = tt
within-ended most Starves context state = tt

within-letting_go : (most : ℕ) (ending : Ending) (mark : Mark) (session : Session) → Each (PausesWithin most) (letting_go ending mark session)
within-letting_go most ending mark session =
    each_then {A = Outcome (Unit {0})} {B = Pause} (PausesWithin most) (releasing_tickets
    (gone_at ending session.state.is_open mark session.context.kept) session.context)
    (λ outcome. Give (pause_after ending (record { context = outcome.1; state = state_after ending session.state; left = None })))
    (λ outcome. within-ended most ending outcome.1 (state_after ending session.state))

within-closing : (most : ℕ) (ending : Ending) (mark : Mark) (session : Session) → Each (PausesWithin most) (closing ending mark session)
within-closing most ending mark session = by (half_lock (state_after ending session.state)) where
  by : (half : Option ℕ) → Each (PausesWithin most) (without_half half ending mark (record session { left = None }))
  by None = within-letting_go most ending mark (record session { left = None })
  by (Some global) =
      let after : Outcome (Unit {0}) → Session = λ outcome. record { context = outcome.1; state = without_read_lock session.state; left = None } in
      each_then {A = Outcome (Unit {0})} {B = Pause} (PausesWithin most) (releasing global session.context) (λ outcome. letting_go ending mark (after outcome))
      (λ outcome. within-letting_go most ending mark (after outcome))

follows-within : (most : ℕ) (asked : Row Reply) → AsksForAtMost most asked → Follows AreFewTables (AsksForAtMost most) AnyEnding asked
follows-within most (row.Give reply) is = tt
follows-within most (row.Fail number) is = tt
follows-within most (row.Acquire wish rest) (fewer, same, is) = λ id. few-more fewer most (rest id) (omega (arith, same)) (is id)
follows-within most (row.Upgrade id key mode rest) (fewer, same, is) = λ id. few-more fewer most (rest id) (omega (arith, same)) (is id)
follows-within most _ is = is

-- the bound may be greater than what is left, so that a lock that is had at once leaves it as it is
rules-within : (most : ℕ) (mark : Mark) → Rules AreFewTables (PausesWithin most) mark AnyEnding (AsksForAtMost most)
rules-within most mark = record {
  endings = any-endings;
  closes = λ ending session _. within-closing most ending mark session;
  follows = follows-within most;
  waits = λ wish rest session is. (let more = is.1 in omega (arith, more), is);
  raises = λ id key mode rest session is. (let more = is.1 in omega (arith, more), is);
}

-- where a schema has no more tables than a space has places
abbrev pub EachWithin : ℕ → Program Pause → Type 0
EachWithin most program = EachBy (Told AreFewTables) (PausesWithin most) program

pub within-play : (most : ℕ) (asked : Row Reply) (mark : Mark) (session : Session) → AsksForAtMost most asked → EachWithin most (play asked mark session)
within-play most asked mark session is =
    so-play AreFewTables (PausesWithin most) mark AnyEnding (AsksForAtMost most) (rules-within most mark) asked session is

-- ---- what is left of a statement

-- a wait has come to its end
abbrev pub IsOver : Outcome Resume → Type 0
IsOver (Ok resume.Waiting, context) = ⊥
IsOver (Ok (resume.Acquired id), context) = Unit {0}
IsOver (Ok (resume.Lost how), context) = Unit {0}
IsOver (Err error, context) = Unit {0}

-- then the statement ends, or it has one lock less to ask for
within-resumed : (n : ℕ) (left : Left) (session : Session) (outcome : Outcome Resume) → ((id : ℕ) → AsksForAtMost n (left.rest id)) → IsOver outcome
    → EachWithin n (playing.resumed left session outcome)
within-resumed n left session (Ok resume.Waiting, context) is over = absurd over
within-resumed n left session (Ok (resume.Acquired id), context) is over = within-play n (left.rest id) left.mark (with_context session context) (is id)
within-resumed n left session (Ok (resume.Lost how), context) is over =
    let ending = ending_of_loss (waits_for_user_lock session.context) how in
    each-by (Told AreFewTables) (PausesWithin n) (closing ending left.mark (with_context session context))
    (within-closing n ending left.mark (with_context session context))
within-resumed n left session (Err error, context) is over =
    each-by (Told AreFewTables) (PausesWithin n) (closing (ending_of_error error) left.mark (with_context session context))
    (within-closing n (ending_of_error error) left.mark (with_context session context))

-- ---- a settled wait

-- the wait, and how it is settled
pub settled-wait : (here : Bool) (wait : Option Pending) → is_settled_wait (if here then wait else None) ≡ true
    → (its : Pending) × (how : Settled) × (wait ≡ Some its) × (its.settled ≡ Some how)
settled-wait true (Some its) settled = by its.settled refl settled where
  by : (how : Option Settled) → its.settled ≡ how → is_some how ≡ true → (one : Pending) × (way : Settled) × (Some its ≡ Some one) × (one.settled ≡ Some way)
  by (Some how) same is = (its, how, refl, same)
  by None same is = cc
settled-wait true None settled = cc
settled-wait false wait settled = cc

-- that is what a poll tells
polled-settled : (wait : Option Pending) (its : Pending) (how : Settled) (core : Core) → wait ≡ Some its → its.settled ≡ Some how
    → polling_of wait core ≡ (Is_settled how, core)
polled-settled wait its how core same settled = rw same (rw settled refl)

pub polls-settled : (who : ℕ) (core : Core) → has_settled core who ≡ true → (how : Settled) × (poll_wait_outcome who core ≡ (Is_settled how, core))
polls-settled who core settled =
    let it = settled-wait (has_session who core) (seat_at who core).wait settled in
    (it.1, polled-settled (seat_at who core).wait it.0 it.1 core it.2 it.3)

-- a merge is no new wait
over-merged : (id : ℕ) (mode : Mode) (context : ContextView) (end : Result (Unit {0}) SpaceError) → IsOver (upgrades.merged (resume.Acquired id) id mode context end)
over-merged id mode context (Ok x) = tt
over-merged id mode context (Err refusal) = tt

over-won : (upgrade : Option (ℕ × Mode)) (new : ℕ) (context : ContextView) → Each IsOver (waits.wait_won upgrade new context)
over-won None new context = tt
over-won (Some (id, mode)) new context =
    each_then {A = Result (Unit {0}) SpaceError} {B = Outcome Resume} IsOver (upgrades.merging_new context.who id new)
    (λ end. Give (upgrades.merged (resume.Acquired id) id mode (waits.without_wait context) end)) (over-merged id mode (waits.without_wait context))

-- nor is it one that a context lets go of places
over-lost : (how : Settled) (context : ContextView) → Each IsOver (tidying (Ok (resume.Lost how), context))
over-lost how context =
    each_then {A = Unit {0}} {B = Outcome Resume} IsOver (unpinning_all context.who (unneeded context))
    (λ _. Give (Ok (resume.Lost how), tidied context)) (λ _. tt)

over-ended : (context : ContextView) (answer : Answer) (core : Core) → IsOver (outcome_of outcome (waits.end_answered context answer) core).0
over-ended context (Granted id) core =
    each-outcome IsOver outcome (waits.wait_won (awaited_upgrade context.wait) id context) core (over-won (awaited_upgrade context.wait) id context)
over-ended context (Lost how) core =
    let over = waits.without_wait context in each-outcome IsOver outcome (tidying (Ok (resume.Lost how), over)) core (over-lost how over)
over-ended context answer core = tt

over-polled : (context : ContextView) (core : Core) (how : Settled) → IsOver (outcome_of outcome (waits.poll_answered context (Is_settled how)) core).0
over-polled context core how = over-ended context (end_wait_outcome context.who core).0 (end_wait_outcome context.who core).1

-- so a wait that goes on comes to its end
over-looking : (context : ContextView) (core : Core) (how : Settled) → poll_wait_outcome context.who core ≡ (Is_settled how, core)
    → IsOver (outcome_of outcome (waits.looking context) core).0
over-looking context core how polls =
    subst (λ (told : Answer × Core). IsOver (outcome_of outcome (waits.poll_answered context told.0) told.1).0) (sym polls) (over-polled context core how)

over-going : (searched : Option Bool) (context : ContextView) (core : Core) (how : Settled) → poll_wait_outcome context.who core ≡ (Is_settled how, core)
    → IsOver (outcome_of outcome (waits.continuing_wait searched context) core).0
over-going None context core how polls = tt
over-going (Some true) context core how polls = over-looking context core how polls
over-going (Some false) context core how polls =
    subst (λ (told : Answer × Core). IsOver (outcome_of outcome (waits.cut_off_answered context told.0) told.1).0) (sym polls) (over-polled context core how)

over-resuming : (context : ContextView) (core : Core) → has_settled core context.who ≡ true → IsOver (outcome_of outcome (resuming context) core).0
over-resuming context core settled =
    let it = polls-settled context.who core settled in over-going (waits.is_searched context.wait) context core it.0 it.1

-- ---- outcomes

-- a session goes on whose wait is settled: if it waits again, then with one lock less to ask for
pub within-going : (n : ℕ) (session : Session) (left : Left) (core : Core) → HasFewPlaces core → session.left ≡ Some left → ((id : ℕ) → AsksForAtMost n (left.rest id))
    → has_settled core session.context.who ≡ true → PausesWithin n (outcome_of outcome (going_on session) core).0
within-going n session left core few same is settled =
    let bare : Session = record session { left = None } in
    let end : Outcome Resume × Core = outcome_of outcome (resuming session.context) core in
    subst (λ (its : Option Left). PausesWithin n (outcome_of outcome (playing.going_on_with its bare) core).0) (sym same)
    (subst (λ (end : Pause × Core). PausesWithin n end.0) (sym (outcome-then outcome (resuming session.context) (playing.resumed left bare) core))
    (by-outcome (PausesWithin n) (playing.resumed left bare end.0) end.1 (few-outcome (resuming session.context) core few)
    (within-resumed n left bare end.0 is (over-resuming session.context core settled))))
