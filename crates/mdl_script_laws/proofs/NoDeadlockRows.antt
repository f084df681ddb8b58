-- Each statement leaves a space without a deadlock, however far it comes.
use Rattle.std.proofs.Common.{ℕ, Option, Some, None, Ok, Err, refl, List}
use Rattle.mdl_key.specs.Keys.{KeyName}
use Rattle.mdl_defs.specs.declared.versioned_definition.VersionedDefinition.{VersionedDefinition}
use Rattle.mdl_calls.specs.Words.{Answer, Has_wait, Reads, Changed, Change_definition, Kill, Read_kept, Wait_of, Program, Give, ◌>>=◌, Tables, Key_is, Tables_of, Key_of}
use Rattle.mdl_context.specs.declared.request.Acquire.{Acquire}
use Rattle.mdl_context.specs.declared.request.Acquire.TheVariants as acquire
use Rattle.mdl_context.specs.declared.request.Mark.{Mark}
use Rattle.mdl_context.specs.declared.request.Resume.{Resume}
use Rattle.mdl_context.specs.declared.request.Resume.TheVariants as resume
use Rattle.mdl_context.specs.declared.request.Tried.{Tried}
use Rattle.mdl_context.specs.declared.request.Tried.TheVariants as try_as
use Rattle.mdl_context.specs.Contexts.{current_mark, last_ticket, waits_for_user_lock}
use Rattle.mdl_context.specs.Gains.{refusal_answered}
use Rattle.mdl_context.specs.Releases.{releasing, releasing_tickets}
use Rattle.mdl_context.specs.Requests.{Outcome, acquiring, trying}
use Rattle.mdl_context.specs.Upgrades.{upgrading, downgrading}
use Rattle.mdl_context.specs.Waits.{resuming}
use Rattle.mdl_context.specs.Wishes.{Wish}
use Rattle.mdl_context.proofs.WhoLemmas.{of_acquiring, of_resuming, of_giving_up, of_releasing, of_trying, of_upgrading, of_downgrading}
use Rattle.mdl_rows.specs.declared.ending.Ending.{Ending}
use Rattle.mdl_rows.specs.declared.ending.Ending.TheVariants.{Answers}
use Rattle.mdl_rows.specs.declared.reply.Reply.{Reply}
use Rattle.mdl_rows.specs.declared.reply.Reply.TheVariants as reply
use Rattle.mdl_rows.specs.Endings.{Pause, closing, ending_of_error, ending_of_loss, ending_of_refusal, gone_at, letting_go, pause_after, state_after, without_half}
use Rattle.mdl_rows.specs.MemoryLaws.{EachPlay}
use Rattle.mdl_rows.specs.Playing as playing
use Rattle.mdl_rows.specs.Playing.{play, with_context}
use Rattle.mdl_rows.specs.Rows.{Row}
use Rattle.mdl_rows.specs.Rows as row
use Rattle.mdl_rows.specs.Sessions.{Left, Session}
use Rattle.mdl_rows.specs.States.{half_lock, without_read_lock}
use Rattle.mdl_rows.specs.Statements.{row_of}
use Rattle.mdl_script_laws.proofs.NoDeadlockContexts.{calm-acquiring, calm-ask, calm-downgrading, calm-giving_up, calm-releasing, calm-resuming, calm-trying, calm-upgrading}
use Rattle.mdl_script_laws.proofs.NoDeadlockPrograms.{LeavesCalm, calm-then}

-- a program of a statement, for its session
abbrev pub IsCalmFor : ℕ → Program Pause → Type 0
IsCalmFor who program = LeavesCalm who program

-- ---- ends

calm-letting_go : (ending : Ending) (mark : Mark) (session : Session) → IsCalmFor session.context.who (letting_go ending mark session)
calm-letting_go ending mark session =
    let gone = gone_at ending session.state.is_open mark session.context.kept in
    calm-then {A = Unit {0}} {B = Pause} session.context.who (releasing_tickets gone session.context)
    (λ outcome. Give (pause_after ending (record { context = outcome.1; state = state_after ending session.state; left = None })))
    (calm-giving_up gone session.context) (of_giving_up gone session.context) (λ outcome a calm. calm)

calm-closing : (ending : Ending) (mark : Mark) (session : Session) → IsCalmFor session.context.who (closing ending mark session)
calm-closing ending mark session = by (half_lock (state_after ending session.state)) where
  by : (half : Option ℕ) → IsCalmFor session.context.who (without_half half ending mark (record session { left = None }))
  by None = calm-letting_go ending mark (record session { left = None })
  by (Some global) =
      let after : Outcome (Unit {0}) → Session = λ outcome. record { context = outcome.1; state = without_read_lock session.state; left = None } in
      calm-then {A = Unit {0}} {B = Pause} session.context.who (releasing global session.context) (λ outcome. letting_go ending mark (after outcome))
      (calm-releasing global session.context) (of_releasing global session.context) (λ outcome. calm-letting_go ending mark (after outcome))

-- ---- locks

calm-acquired : (wish : Wish) (rest : ℕ → Row Reply) (mark : Mark) (session : Session) (more : ℕ → Session → Program Pause)
    → ((id : ℕ) (after : Session) → IsCalmFor after.context.who (more id after)) → (outcome : Outcome Acquire)
    → IsCalmFor outcome.1.who (playing.acquired wish rest mark session more outcome)
calm-acquired wish rest mark session more made (Ok (acquire.Acquired id), context) = made id (with_context session context)
calm-acquired wish rest mark session more made (Ok (acquire.MustWait number), context) = λ a calm. calm
calm-acquired wish rest mark session more made (Err error, context) = calm-closing (ending_of_error error) mark (with_context session context)

calm-tried : (mark : Mark) (session : Session) (more : Option ℕ → Session → Program Pause)
    → ((got : Option ℕ) (after : Session) → IsCalmFor after.context.who (more got after)) → (outcome : Outcome Tried)
    → IsCalmFor outcome.1.who (playing.tried mark session more outcome)
calm-tried mark session more made (Ok (try_as.Acquired id), context) = made (Some id) (with_context session context)
calm-tried mark session more made (Ok try_as.WouldWait, context) = made None (with_context session context)
calm-tried mark session more made (Err error, context) = calm-closing (ending_of_error error) mark (with_context session context)

-- ---- what stands

calm-read : (mark : Mark) (session : Session) (more : VersionedDefinition → Program Pause) → ((standing : VersionedDefinition) → IsCalmFor session.context.who (more standing))
    → (answer : Answer) → IsCalmFor session.context.who (playing.read_answered mark session more answer)
calm-read mark session more made (Reads version definition) = made (record { version = version; definition = definition })
calm-read mark session more made answer = calm-closing (ending_of_refusal (refusal_answered answer)) mark session

calm-change : (mark : Mark) (session : Session) (more : Program Pause) → IsCalmFor session.context.who more
    → (answer : Answer) → IsCalmFor session.context.who (playing.change_answered mark session more answer)
calm-change mark session more made (Changed version) = made
calm-change mark session more made answer = calm-closing (ending_of_refusal (refusal_answered answer)) mark session

calm-tables : (mark : Mark) (session : Session) (more : List ℕ → Program Pause) → ((tables : List ℕ) → IsCalmFor session.context.who (more tables))
    → (answer : Answer) → IsCalmFor session.context.who (playing.tables_answered mark session more answer)
calm-tables mark session more made (Tables tables) = made tables
calm-tables mark session more made answer = calm-closing (ending_of_refusal (refusal_answered answer)) mark session

calm-key : (mark : Mark) (session : Session) (more : KeyName → Program Pause) → ((key : KeyName) → IsCalmFor session.context.who (more key))
    → (answer : Answer) → IsCalmFor session.context.who (playing.key_answered mark session more answer)
calm-key mark session more made (Key_is key) = made key
calm-key mark session more made answer = calm-closing (ending_of_refusal (refusal_answered answer)) mark session

-- ---- kills

calm-told : (who target : ℕ) (more : Program Pause) → IsCalmFor who more → (answer : Answer) → IsCalmFor who (playing.wait_told target answer >>= (λ _. more))
calm-told who target more made (Has_wait (Some number)) =
    calm-ask {A = Pause} who (Kill target number) (λ _. more) tt (λ answer session. refl) (λ _. made)
calm-told who target more made _ = made

-- ---- all that may be asked for

calm-play : (asked : Row Reply) (mark : Mark) (session : Session) → IsCalmFor session.context.who (play asked mark session)
calm-play (row.Give reply) mark session = calm-closing (Answers reply) mark session
calm-play (row.Fail number) mark session = calm-closing (Answers (reply.Error number)) mark session
calm-play (row.Room rest) mark session = calm-play rest mark session
calm-play (row.Look rest) mark session = calm-play (rest session.state) mark session
calm-play (row.Set change rest) mark session = calm-play rest mark (record session { state = change session.state })
calm-play (row.Here rest) mark session = calm-play (rest (current_mark session.context.kept)) mark session
calm-play (row.Acquire wish rest) mark session =
    let more = λ (id : ℕ) (after : Session). play (rest id) mark after in
    calm-then {A = Acquire} {B = Pause} session.context.who (acquiring wish session.context) (playing.acquired wish rest mark session more)
    (calm-acquiring wish session.context) (of_acquiring wish session.context)
    (calm-acquired wish rest mark session more (λ id after. calm-play (rest id) mark after))
calm-play (row.Try_acquire wish rest) mark session =
    let more = λ (got : Option ℕ) (after : Session). play (rest got) mark after in
    calm-then {A = Tried} {B = Pause} session.context.who (trying wish session.context) (playing.tried mark session more)
    (calm-trying wish session.context) (of_trying wish session.context)
    (calm-tried mark session more (λ got after. calm-play (rest got) mark after))
calm-play (row.Last key rest) mark session = calm-play (rest (last_ticket key session.context)) mark session
calm-play (row.Upgrade id key mode rest) mark session =
    let wish = playing.upgrade_wish key mode in
    let more = λ (id : ℕ) (after : Session). play (rest id) mark after in
    calm-then {A = Acquire} {B = Pause} session.context.who (upgrading id mode session.context) (playing.acquired wish rest mark session more)
    (calm-upgrading id mode session.context) (of_upgrading id mode session.context)
    (calm-acquired wish rest mark session more (λ id after. calm-play (rest id) mark after))
calm-play (row.Downgrade id mode rest) mark session =
    calm-then {A = Unit {0}} {B = Pause} session.context.who (downgrading id mode session.context) (λ outcome. play rest mark (with_context session outcome.1))
    (calm-downgrading id mode session.context) (of_downgrading id mode session.context) (λ outcome. calm-play rest mark (with_context session outcome.1))
calm-play (row.Give_up which rest) mark session =
    let gone = which session.context.kept in
    calm-then {A = Unit {0}} {B = Pause} session.context.who (releasing_tickets gone session.context) (λ outcome. play rest mark (with_context session outcome.1))
    (calm-giving_up gone session.context) (of_giving_up gone session.context) (λ outcome. calm-play rest mark (with_context session outcome.1))
calm-play (row.Release id rest) mark session =
    calm-then {A = Unit {0}} {B = Pause} session.context.who (releasing id session.context) (λ outcome. play rest mark (with_context session outcome.1))
    (calm-releasing id session.context) (of_releasing id session.context) (λ outcome. calm-play rest mark (with_context session outcome.1))
calm-play (row.Keep rest) mark session = calm-play rest mark (playing.all_kept session)
calm-play (row.Read id rest) mark session =
    let more = λ (standing : VersionedDefinition). play (rest standing) mark session in
    calm-ask {A = Pause} session.context.who (Read_kept session.context.who id) (playing.read_answered mark session more) refl
    (λ answer session. refl) (calm-read mark session more (λ standing. calm-play (rest standing) mark session))
calm-play (row.Redefine id change rest) mark session =
    let more = play rest mark session in
    calm-ask {A = Pause} session.context.who (Change_definition session.context.who id change) (playing.change_answered mark session more) refl
    (λ answer session. refl) (calm-change mark session more (calm-play rest mark session))
calm-play (row.Tables_of schema rest) mark session =
    let more = λ (tables : List ℕ). play (rest tables) mark session in
    calm-ask {A = Pause} session.context.who (Tables_of session.context.who schema) (playing.tables_answered mark session more) refl
    (λ answer session. refl) (calm-tables mark session more (λ tables. calm-play (rest tables) mark session))
calm-play (row.Key_of place rest) mark session =
    let more = λ (key : KeyName). play (rest key) mark session in
    calm-ask {A = Pause} session.context.who (Key_of session.context.who place) (playing.key_answered mark session more) refl
    (λ answer session. refl) (calm-key mark session more (λ key. calm-play (rest key) mark session))
calm-play (row.Kill target rest) mark session =
    let more = play rest mark session in
    calm-ask {A = Pause} session.context.who (Wait_of target) (λ answer. playing.wait_told target answer >>= (λ _. more)) tt
    (λ answer session. refl) (calm-told session.context.who target more (calm-play rest mark session))

-- ---- what is left of a statement

calm-resumed : (left : Left) (session : Session) (outcome : Outcome Resume) → IsCalmFor outcome.1.who (playing.resumed left session outcome)
calm-resumed left session (Ok resume.Waiting, context) = λ a calm. calm
calm-resumed left session (Ok (resume.Acquired id), context) = calm-play (left.rest id) left.mark (with_context session context)
calm-resumed left session (Ok (resume.Lost how), context) =
    calm-closing (ending_of_loss (waits_for_user_lock session.context) how) left.mark (with_context session context)
calm-resumed left session (Err error, context) = calm-closing (ending_of_error error) left.mark (with_context session context)

calm-going_on : (left : Option Left) (session : Session) → IsCalmFor session.context.who (playing.going_on_with left session)
calm-going_on None session = λ a calm. calm
calm-going_on (Some left) session =
    calm-then {A = Resume} {B = Pause} session.context.who (resuming session.context) (playing.resumed left session) (calm-resuming session.context)
    (of_resuming session.context) (calm-resumed left session)

-- ---- statements

pub rows_calm : EachPlay (λ session program. IsCalmFor session.context.who program)
rows_calm session = (
  λ asked mark. calm-play asked mark session,
  λ statement. calm-play (row_of statement) (current_mark session.context.kept) session,
  calm-going_on session.left (record session { left = None }),
)
