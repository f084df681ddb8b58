-- However far a statement comes, its session is tidy once it has ended, and underway until then.
use Rattle.std.proofs.Common.{◌≡◌, ℕ, Bool, true, false, Option, Some, None, if◌then◌else◌, Ok, List, length, refl, sym, ap, subst}
use Rattle.mdl_calls.specs.Words.{Program, Give, Each}
use Rattle.mdl_calls.proofs.FaithfulLemmas.{each_bind, each_then}
use Rattle.mdl_context.specs.declared.kept.Kept.{Kept}
use Rattle.mdl_context.specs.declared.request.Mark.{Mark}
use Rattle.mdl_context.specs.declared.request.Resume.{Resume}
use Rattle.mdl_context.specs.Contexts.{ContextView, current_mark, without_tickets}
use Rattle.mdl_context.specs.Releases.{releasing, releasing_all, releasing_tickets}
use Rattle.mdl_context.specs.Requests.{Outcome}
use Rattle.mdl_context.specs.Tidying.{tidied, tidying, unneeded, unpinning_all}
use Rattle.mdl_context.specs.Waits.{resuming}
use Rattle.mdl_rows.specs.declared.ending.Ending.{Ending}
use Rattle.mdl_rows.specs.declared.ending.Ending.TheVariants.{Answers, Misses, Falls, Starves}
use Rattle.mdl_rows.specs.declared.reply.Reply.{Reply}
use Rattle.mdl_rows.specs.Endings.{Pause, closing, gone_at, letting_go, pause_after, state_after, without_half}
use Rattle.mdl_rows.specs.Playing as playing
use Rattle.mdl_rows.specs.Playing.{play}
use Rattle.mdl_rows.specs.Rows.{Row}
use Rattle.mdl_rows.specs.Rows as row
use Rattle.mdl_rows.specs.Sessions.{Session}
use Rattle.mdl_rows.specs.States.{State, half_lock, without_read_lock}
use Rattle.mdl_rows.specs.Statements.{row_of}
use Rattle.mdl_script_laws.specs.RefusalsFirst.{EndsTidy, IsTidy, IsUnderway, SessionsStayTidy}
use Rattle.mdl_script_laws.proofs.RowPauses.{AnyEnding, AnyTables, Follows, Rules, Told, any-endings, any-told, so-play, so-resumed}
use Rattle.mdl_script_laws.proofs.OutcomeLemmas.{by-each}
use Rattle.mdl_script_laws.proofs.TidyLemmas.{none-of_statement, none-of_transaction, tidied-tidy}

-- whatever comes of it
abbrev AllOrderly : Program Pause → Type 0
AllOrderly program = Each EndsTidy program

-- a mark that counts no ticket of a statement
abbrev IsAtStart : Mark → Type 0
IsAtStart mark = mark.statement ≡ 0

-- ---- ends

orderly_ended : (ending : Ending) (session : Session) → IsTidy session → EndsTidy (pause_after ending session)
orderly_ended (Answers reply) session tidy = tidy
orderly_ended (Misses number) session tidy = tidy
orderly_ended Falls session tidy = tidy
orderly_ended Starves session tidy = tidy

-- without the tickets that go, and the places where nothing is left
abbrev left_of : List Kept → ContextView → ContextView
left_of gone context = tidied (record context { kept = without_tickets gone context.kept })

each_left : (gone : List Kept) (context : ContextView) → Each (λ (outcome : Outcome (Unit {0})). outcome.1 ≡ left_of gone context) (releasing_tickets gone context)
each_left gone context =
    let left : ContextView = record context { kept = without_tickets gone context.kept } in
    each_then {A = Unit {0}} {B = Outcome (Unit {0})} (λ outcome. outcome.1 ≡ left_of gone context) (releasing_all context.who gone)
    (λ _. tidying (Ok tt, left))
    (λ _. each_then {A = Unit {0}} {B = Outcome (Unit {0})} (λ outcome. outcome.1 ≡ left_of gone context) (unpinning_all context.who (unneeded left))
    (λ _. Give (Ok tt, tidied left)) (λ _. refl))

orderly_letting_go : (ending : Ending) (mark : Mark) (session : Session) → IsAtStart mark → half_lock (state_after ending session.state) ≡ None
    → AllOrderly (letting_go ending mark session)
orderly_letting_go ending mark session start whole =
    each_bind {A = Outcome (Unit {0})} {B = Pause} (λ outcome. outcome.1 ≡ left_of gone session.context) EndsTidy (releasing_tickets gone session.context)
    (λ outcome. Give (pause_after ending (after outcome.1))) (each_left gone session.context)
    (λ outcome same. orderly_ended ending (after outcome.1) (subst (λ context. IsTidy (after context)) (sym same) tidy))
  where
    gone : List Kept
    gone = gone_at ending session.state.is_open mark session.context.kept

    after : ContextView → Session
    after context = record { context = context; state = state_after ending session.state; left = None }

    tidy : IsTidy (after (left_of gone session.context))
    tidy = record {
      over = refl;
      statement = none-of_statement ending session.state.is_open mark session.context.kept start;
      transaction = none-of_transaction ending mark session.context.kept session.state;
      whole = whole;
      places = tidied-tidy (record session.context { kept = without_tickets gone session.context.kept });
    }

-- without the global read lock there is no half of it
no_half : (ending : Ending) (state : State) → half_lock (state_after ending (without_read_lock state)) ≡ None
no_half ending state = by ending where
  either : (opened : Bool) → (if opened then None else None) ≡ (let none : Option ℕ = None in none)
  either true = refl
  either false = refl

  by : (e : Ending) → half_lock (state_after e (without_read_lock state)) ≡ None
  by (Answers reply) = either state.is_open
  by (Misses number) = either state.is_open
  by Falls = refl
  by Starves = either state.is_open

orderly_closing : (ending : Ending) (mark : Mark) (session : Session) → IsAtStart mark → AllOrderly (closing ending mark session)
orderly_closing ending mark session start = by (half_lock (state_after ending session.state)) refl where
  by : (half : Option ℕ) → half_lock (state_after ending session.state) ≡ half → AllOrderly (without_half half ending mark (record session { left = None }))
  by None is = orderly_letting_go ending mark (record session { left = None }) start is
  by (Some global) is =
      let after : Outcome (Unit {0}) → Session = λ outcome. record { context = outcome.1; state = without_read_lock session.state; left = None } in
      each_then {A = Outcome (Unit {0})} {B = Pause} EndsTidy (releasing global session.context) (λ outcome. letting_go ending mark (after outcome))
      (λ outcome. orderly_letting_go ending mark (after outcome) start (no_half ending session.state))

-- ---- all that may be asked for

-- a statement may ask for anything
abbrev AnyRow : Row Reply → Type 0
AnyRow asked = Unit {0}

follows_any : (asked : Row Reply) → Follows AnyTables AnyRow AnyEnding asked
follows_any (row.Look rest) = λ state. tt
follows_any (row.Here rest) = λ mark. tt
follows_any (row.Acquire wish rest) = λ id. tt
follows_any (row.Try_acquire wish rest) = λ got. tt
follows_any (row.Last key rest) = λ held. tt
follows_any (row.Upgrade id key mode rest) = λ id. tt
follows_any (row.Read id rest) = λ standing. tt
follows_any (row.Tables_of schema rest) = λ tables told. tt
follows_any (row.Key_of place rest) = λ key. tt
follows_any _ = tt

rules_orderly : (mark : Mark) → IsAtStart mark → Rules AnyTables EndsTidy mark AnyEnding AnyRow
rules_orderly mark start = record {
  endings = any-endings;
  closes = λ ending session _. orderly_closing ending mark session start;
  follows = λ asked _. follows_any asked;
  waits = λ wish rest session _. (record { rest = rest; mark = mark }, refl, start);
  raises = λ id key mode rest session _. (record { rest = rest; mark = mark }, refl, start);
}

orderly_going_on : (session : Session) → IsUnderway session → AllOrderly (playing.going_on session)
orderly_going_on session (left, is, start) =
    let resting : Session = record session { left = None } in
    subst (λ some. AllOrderly (playing.going_on_with some resting)) (sym is)
    (each_then {A = Outcome Resume} {B = Pause} EndsTidy (resuming session.context) (playing.resumed left resting)
    (λ outcome. by-each (Told AnyTables) EndsTidy (playing.resumed left resting outcome) any-told
    (so-resumed AnyTables EndsTidy AnyEnding AnyRow left resting (rules_orderly left.mark start) (λ context. (left, refl, start)) (λ id. tt) outcome)))

pub stay_tidy : SessionsStayTidy
stay_tidy session = (
  λ statement none.
      let mark = current_mark session.context.kept in
      by-each (Told AnyTables) EndsTidy (play (row_of statement) mark session) any-told
      (so-play AnyTables EndsTidy mark AnyEnding AnyRow (rules_orderly mark (ap length none)) (row_of statement) session tt),
  orderly_going_on session,
)
