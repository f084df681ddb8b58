-- Once a statement has ended, its session's context knows only the places where it has something: whatever ends a statement releases tickets last, and then
-- the context lets go of the other places. Until then each call leaves it so, if it was.
use Rattle.std.proofs.Common.{◌≡◌, ℕ, false, List, [], ◌∷◌, Option, Some, None, IsSome, Ok, Err, refl, ap, ◌∙◌}
use Rattle.std.specs.Prelude.{◌==◌, ◌||◌, map}
use Rattle.std.specs.List.{list_any}
use Rattle.std.specs.Option.{option_map_or}
use Rattle.mdl_key.specs.declared.mode.Duration.{Duration}
use Rattle.mdl_key.specs.declared.mode.Duration.TheVariants.{Explicit}
use Rattle.mdl_key.specs.Keys.{KeyName}
use Rattle.mdl_defs.specs.declared.versioned_definition.VersionedDefinition.{VersionedDefinition}
use Rattle.mdl_calls.specs.Words.{Answer, Reads, Changed, Tables, Key_is, Program, Give, Ask, Grow, ◌>>=◌, Each}
use Rattle.mdl_calls.proofs.FaithfulLemmas.{each_bind, each_then}
use Rattle.mdl_context.specs.declared.request.Acquire.{Acquire}
use Rattle.mdl_context.specs.declared.request.Acquire.TheVariants as acquire
use Rattle.mdl_context.specs.declared.request.Mark.{Mark}
use Rattle.mdl_context.specs.declared.request.Resume.{Resume}
use Rattle.mdl_context.specs.declared.request.Resume.TheVariants as resume
use Rattle.mdl_context.specs.declared.request.Tried.{Tried}
use Rattle.mdl_context.specs.declared.request.Tried.TheVariants as try_as
use Rattle.mdl_context.specs.declared.kept.Kept.{Kept}
use Rattle.mdl_context.specs.declared.kept.Wanted.{Wanted}
use Rattle.mdl_context.specs.Contexts.{ContextView, current_mark, last_ticket, waits_for_user_lock}
use Rattle.mdl_context.specs.Gains.{refusal_answered}
use Rattle.mdl_context.specs.Holdings.{is_kept_at, kept_for}
use Rattle.mdl_context.specs.Releases.{releasing, releasing_tickets}
use Rattle.mdl_context.specs.Requests.{Outcome, acquiring, trying}
use Rattle.mdl_context.specs.Tidying.{IsTidy}
use Rattle.mdl_context.specs.Upgrades.{upgrading, downgrading}
use Rattle.mdl_context.specs.Waits.{giving_up_wait, resuming}
use Rattle.mdl_context.specs.Wishes.{Wish}
use Rattle.mdl_context.proofs.StayTidyLemmas.{tidy-acquiring, tidy-downgrading, tidy-more, tidy-releasing, tidy-resuming, tidy-trying, tidy-upgrading}
use Rattle.mdl_context.proofs.TidyLemmas.{releases-leave_tidy}
use Rattle.mdl_rows.specs.declared.ending.Ending.{Ending}
use Rattle.mdl_rows.specs.declared.ending.Ending.TheVariants.{Answers, Misses, Falls, Starves}
use Rattle.mdl_rows.specs.declared.reply.Reply.{Reply}
use Rattle.mdl_rows.specs.declared.reply.Reply.TheVariants as reply
use Rattle.mdl_rows.specs.Endings.{Pause, closing, ending_of_error, ending_of_loss, ending_of_refusal, gone_at, letting_go, pause_after, state_after, without_half}
use Rattle.mdl_rows.specs.MemoryLaws.{IsInOrder, LeavesTidy, StatementsEndTidy}
use Rattle.mdl_rows.specs.Playing as playing
use Rattle.mdl_rows.specs.Playing.{play, with_context}
use Rattle.mdl_rows.specs.Rows.{Row}
use Rattle.mdl_rows.specs.Rows as row
use Rattle.mdl_rows.specs.Sessions.{Left, Session}
use Rattle.mdl_rows.specs.States.{half_lock, without_read_lock}
use Rattle.mdl_rows.specs.Statements.{row_of}

-- what is so under a condition, is so of each reply under it
each-given : {A : Type 0} (T : Type 0) (P : A → Type 0) (program : Program A) → (T → Each P program) → Each (λ x. T → P x) program
each-given T P (Give x) given = given
each-given T P (Ask call next) given = λ answer. each-given T P (next answer) (λ t. given t answer)
each-given T P (Grow refused found) given = (each-given T P refused (λ t. (given t).0), each-given T P found (λ t. (given t).1))

-- tickets with another duration are where they were
any-kept_for : (place : ℕ) (duration : Duration) (kept : List Kept)
    → list_any (is_kept_at place) (map (kept_for duration) kept) ≡ list_any (is_kept_at place) kept
any-kept_for place duration [] = refl
any-kept_for place duration (t ∷ ts) = ap (λ rest. (t.place == place) || rest) (any-kept_for place duration ts)

tidy_kept : (context : ContextView) → IsTidy context → IsTidy (record context { kept = map (kept_for Explicit) context.kept })
tidy_kept context tidy =
    tidy-more context (record context { kept = map (kept_for Explicit) context.kept }) refl
    (λ place needed.
    ap (λ here. here || option_map_or (λ (w : Wanted). w.place == place) context.wait false) (any-kept_for place Explicit context.kept) ∙ needed) tidy

-- a statement that began in this session
module _ (before : Session) where
  -- the context is tidy, if it was in order when the statement began
  abbrev IsTidyStill : ContextView → Type 0
  IsTidyStill context = IsInOrder before.context → IsTidy context

  -- a program leaves it so, and tidy wherever it ends the statement
  abbrev AllLeave : Program Pause → Type 0
  AllLeave program = Each (LeavesTidy before) program

  -- what a call of the context leads to
  after_call : {A : Type 0} (call : Program (Outcome A)) (next : Outcome A → Program Pause)
      → (IsInOrder before.context → Each (λ outcome. IsTidy outcome.1) call) → ((outcome : Outcome A) → IsTidyStill outcome.1 → AllLeave (next outcome))
      → AllLeave (call >>= next)
  after_call {A} call next keeps later =
      each_bind {A = Outcome A} {B = Pause} (λ outcome. IsTidyStill outcome.1) (LeavesTidy before) call next
      (each-given {A = Outcome A} (IsInOrder before.context) (λ outcome. IsTidy outcome.1) call keeps) later

  -- ---- ends

  tidy_ended : (ending : Ending) (session : Session) → IsTidy session.context → LeavesTidy before (pause_after ending session)
  tidy_ended (Answers reply) session tidy = tidy
  tidy_ended (Misses number) session tidy = tidy
  tidy_ended Falls session tidy = tidy
  tidy_ended Starves session tidy = tidy

  tidy_letting_go : (ending : Ending) (mark : Mark) (session : Session) → AllLeave (letting_go ending mark session)
  tidy_letting_go ending mark session =
      let gone = gone_at ending session.state.is_open mark session.context.kept in
      let after : Outcome (Unit {0}) → Session = λ outcome. record { context = outcome.1; state = state_after ending session.state; left = None } in
      each_bind {A = Outcome (Unit {0})} {B = Pause} (λ outcome. IsTidy outcome.1) (LeavesTidy before) (releasing_tickets gone session.context)
      (λ outcome. Give (pause_after ending (after outcome))) (releases-leave_tidy gone session.context) (λ outcome tidy. tidy_ended ending (after outcome) tidy)

  tidy_closing : (ending : Ending) (mark : Mark) (session : Session) → AllLeave (closing ending mark session)
  tidy_closing ending mark session = by (half_lock (state_after ending session.state)) where
    by : (half : Option ℕ) → AllLeave (without_half half ending mark (record session { left = None }))
    by None = tidy_letting_go ending mark (record session { left = None })
    by (Some global) =
        let after : Outcome (Unit {0}) → Session = λ outcome. record { context = outcome.1; state = without_read_lock session.state; left = None } in
        each_then {A = Outcome (Unit {0})} {B = Pause} (LeavesTidy before) (releasing global session.context)
        (λ outcome. letting_go ending mark (after outcome))
        (λ outcome. tidy_letting_go ending mark (after outcome))

  -- ---- locks

  tidy_untold : (mark : Mark) (session : Session) (outcome : Outcome Resume) → AllLeave (playing.untold mark session outcome)
  tidy_untold mark session (Ok (resume.Acquired id), context) =
      each_then {A = Outcome (Unit {0})} {B = Pause} (LeavesTidy before) (releasing id context)
      (λ outcome. closing Starves mark (with_context session outcome.1))
      (λ outcome. tidy_closing Starves mark (with_context session outcome.1))
  tidy_untold mark session (Ok resume.Waiting, context) = tidy_closing Starves mark (with_context session context)
  tidy_untold mark session (Ok (resume.Lost how), context) = tidy_closing Starves mark (with_context session context)
  tidy_untold mark session (Err error, context) = tidy_closing Starves mark (with_context session context)

  tidy_waiting : (wish : Wish) (left : Left) (session : Session) → IsTidyStill session.context → AllLeave (playing.beginning_to_wait wish left session)
  tidy_waiting wish left session tidy = (
    each_then {A = Outcome Resume} {B = Pause} (LeavesTidy before) (giving_up_wait session.context) (playing.untold left.mark session)
        (tidy_untold left.mark session),
    tidy,
  )

  tidy_acquired : (wish : Wish) (rest : ℕ → Row Reply) (mark : Mark) (session : Session) (more : ℕ → Session → Program Pause)
      → ((id : ℕ) (after : Session) → IsTidyStill after.context → AllLeave (more id after)) → (outcome : Outcome Acquire) → IsTidyStill outcome.1
      → AllLeave (playing.acquired wish rest mark session more outcome)
  tidy_acquired wish rest mark session more made (Ok (acquire.Acquired id), context) tidy = made id (with_context session context) tidy
  tidy_acquired wish rest mark session more made (Ok (acquire.MustWait number), context) tidy =
      tidy_waiting wish (record { rest = rest; mark = mark }) (with_context session context) tidy
  tidy_acquired wish rest mark session more made (Err error, context) tidy = tidy_closing (ending_of_error error) mark (with_context session context)

  tidy_tried : (mark : Mark) (session : Session) (more : Option ℕ → Session → Program Pause)
      → ((got : Option ℕ) (after : Session) → IsTidyStill after.context → AllLeave (more got after)) → (outcome : Outcome Tried) → IsTidyStill outcome.1
      → AllLeave (playing.tried mark session more outcome)
  tidy_tried mark session more made (Ok (try_as.Acquired id), context) tidy = made (Some id) (with_context session context) tidy
  tidy_tried mark session more made (Ok try_as.WouldWait, context) tidy = made None (with_context session context) tidy
  tidy_tried mark session more made (Err error, context) tidy = tidy_closing (ending_of_error error) mark (with_context session context)

  -- ---- what stands

  tidy_read : (mark : Mark) (session : Session) (more : VersionedDefinition → Program Pause) → ((standing : VersionedDefinition) → AllLeave (more standing))
      → (answer : Answer) → AllLeave (playing.read_answered mark session more answer)
  tidy_read mark session more made (Reads version definition) = made (record { version = version; definition = definition })
  tidy_read mark session more made answer = tidy_closing (ending_of_refusal (refusal_answered answer)) mark session

  tidy_change : (mark : Mark) (session : Session) (more : Program Pause) → AllLeave more
      → (answer : Answer) → AllLeave (playing.change_answered mark session more answer)
  tidy_change mark session more made (Changed version) = made
  tidy_change mark session more made answer = tidy_closing (ending_of_refusal (refusal_answered answer)) mark session

  tidy_tables : (mark : Mark) (session : Session) (more : List ℕ → Program Pause) → ((places : List ℕ) → AllLeave (more places))
      → (answer : Answer) → AllLeave (playing.tables_answered mark session more answer)
  tidy_tables mark session more made (Tables places) = made places
  tidy_tables mark session more made answer = tidy_closing (ending_of_refusal (refusal_answered answer)) mark session

  tidy_key : (mark : Mark) (session : Session) (more : KeyName → Program Pause) → ((key : KeyName) → AllLeave (more key))
      → (answer : Answer) → AllLeave (playing.key_answered mark session more answer)
  tidy_key mark session more made (Key_is key) = made key
  tidy_key mark session more made answer = tidy_closing (ending_of_refusal (refusal_answered answer)) mark session

  -- ---- all that may be asked for

  tidy_play : (asked : Row Reply) (mark : Mark) (session : Session) → IsTidyStill session.context → AllLeave (play asked mark session)
  tidy_play (row.Give reply) mark session tidy = tidy_closing (Answers reply) mark session
  tidy_play (row.Fail number) mark session tidy = tidy_closing (Answers (reply.Error number)) mark session
  tidy_play (row.Room rest) mark session tidy = (tidy_closing Starves mark session, tidy_play rest mark session tidy)
  tidy_play (row.Look rest) mark session tidy = tidy_play (rest session.state) mark session tidy
  tidy_play (row.Set change rest) mark session tidy = tidy_play rest mark (record session { state = change session.state }) tidy
  tidy_play (row.Here rest) mark session tidy = tidy_play (rest (current_mark session.context.kept)) mark session tidy
  tidy_play (row.Acquire wish rest) mark session tidy =
      let more = λ (id : ℕ) (after : Session). play (rest id) mark after in
      after_call {A = Acquire} (acquiring wish session.context) (playing.acquired wish rest mark session more)
      (λ order. tidy-acquiring wish session.context (tidy order)) (tidy_acquired wish rest mark session more (λ id after so. tidy_play (rest id) mark after so))
  tidy_play (row.Try_acquire wish rest) mark session tidy =
      let more = λ (got : Option ℕ) (after : Session). play (rest got) mark after in
      after_call {A = Tried} (trying wish session.context) (playing.tried mark session more)
      (λ order. tidy-trying wish session.context (tidy order)) (tidy_tried mark session more (λ got after so. tidy_play (rest got) mark after so))
  tidy_play (row.Last key rest) mark session tidy = tidy_play (rest (last_ticket key session.context)) mark session tidy
  tidy_play (row.Upgrade id key mode rest) mark session tidy =
      let wish = playing.upgrade_wish key mode in
      let more = λ (id : ℕ) (after : Session). play (rest id) mark after in
      after_call {A = Acquire} (upgrading id mode session.context) (playing.acquired wish rest mark session more)
      (λ order. tidy-upgrading id mode session.context (tidy order))
      (tidy_acquired wish rest mark session more (λ id after so. tidy_play (rest id) mark after so))
  tidy_play (row.Downgrade id mode rest) mark session tidy =
      after_call {A = Unit {0}} (downgrading id mode session.context) (λ outcome. play rest mark (with_context session outcome.1))
      (λ order. tidy-downgrading id mode session.context (tidy order)) (λ outcome so. tidy_play rest mark (with_context session outcome.1) so)
  tidy_play (row.Give_up which rest) mark session tidy =
      let gone = which session.context.kept in
      after_call {A = Unit {0}} (releasing_tickets gone session.context) (λ outcome. play rest mark (with_context session outcome.1))
      (λ _. releases-leave_tidy gone session.context) (λ outcome so. tidy_play rest mark (with_context session outcome.1) so)
  tidy_play (row.Release id rest) mark session tidy =
      after_call {A = Unit {0}} (releasing id session.context) (λ outcome. play rest mark (with_context session outcome.1))
      (λ order. tidy-releasing id session.context (tidy order)) (λ outcome so. tidy_play rest mark (with_context session outcome.1) so)
  tidy_play (row.Keep rest) mark session tidy = tidy_play rest mark (playing.all_kept session) (λ order. tidy_kept session.context (tidy order))
  tidy_play (row.Read id rest) mark session tidy =
      tidy_read mark session (λ standing. play (rest standing) mark session) (λ standing. tidy_play (rest standing) mark session tidy)
  tidy_play (row.Redefine id change rest) mark session tidy = tidy_change mark session (play rest mark session) (tidy_play rest mark session tidy)
  tidy_play (row.Tables_of schema rest) mark session tidy =
      tidy_tables mark session (λ places. play (rest places) mark session) (λ places. tidy_play (rest places) mark session tidy)
  tidy_play (row.Key_of place rest) mark session tidy =
      tidy_key mark session (λ key. play (rest key) mark session) (λ key. tidy_play (rest key) mark session tidy)
  tidy_play (row.Kill target rest) mark session tidy =
      each_then {A = Unit {0}} {B = Pause} (LeavesTidy before) (playing.killing target) (λ _. play rest mark session) (λ _. tidy_play rest mark session tidy)

  -- ---- what is left of a statement

  tidy_resumed : (left : Left) (session : Session) (outcome : Outcome Resume) → IsTidyStill outcome.1 → AllLeave (playing.resumed left session outcome)
  tidy_resumed left session (Ok resume.Waiting, context) tidy = tidy
  tidy_resumed left session (Ok (resume.Acquired id), context) tidy = tidy_play (left.rest id) left.mark (with_context session context) tidy
  tidy_resumed left session (Ok (resume.Lost how), context) tidy =
      tidy_closing (ending_of_loss (waits_for_user_lock session.context) how) left.mark (with_context session context)
  tidy_resumed left session (Err error, context) tidy = tidy_closing (ending_of_error error) left.mark (with_context session context)

-- ---- the law

tidy_going_on : (left : Option Left) (session : Session) → IsSome left → Each (LeavesTidy session) (playing.going_on_with left (record session { left = None }))
tidy_going_on None session some = cc
tidy_going_on (Some left) session some =
    let resting : Session = record session { left = None } in
    after_call session {A = Resume} (resuming session.context) (playing.resumed left resting) (λ order. tidy-resuming session.context order.0 order.1)
    (tidy_resumed session left resting)

pub rows_end_tidy : StatementsEndTidy
rows_end_tidy session = (
  λ asked mark. tidy_play session asked mark session (λ order. order.0),
  λ statement. tidy_play session (row_of statement) (current_mark session.context.kept) session (λ order. order.0),
  tidy_going_on session.left session,
)
