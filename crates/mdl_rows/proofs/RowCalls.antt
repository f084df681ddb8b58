-- All calls of statements are made for their session or for nobody, and the session keeps its number.
use Rattle.std.proofs.Common.{◌≡◌, ℕ, List, Option, Some, None, Ok, Err, refl, subst}
use Rattle.mdl_key.specs.Keys.{KeyName}
use Rattle.mdl_defs.specs.declared.versioned_definition.VersionedDefinition.{VersionedDefinition}
use Rattle.mdl_calls.specs.Words.{Answer, Has_wait, Reads, Changed, Tables, Key_is, Call, Change_definition, Kill, Tables_of, Key_of, Read_kept, Wait_of, Program, Give, Ask, Grow, ◌>>=◌, Each, EachCall}
use Rattle.mdl_core.specs.RunLaws.{IsMadeFor}
use Rattle.mdl_context.specs.declared.request.Acquire.{Acquire}
use Rattle.mdl_context.specs.declared.request.Acquire.TheVariants as acquire
use Rattle.mdl_context.specs.declared.request.Mark.{Mark}
use Rattle.mdl_context.specs.declared.request.Resume.{Resume}
use Rattle.mdl_context.specs.declared.request.Resume.TheVariants as resume
use Rattle.mdl_context.specs.declared.request.Tried.{Tried}
use Rattle.mdl_context.specs.declared.request.Tried.TheVariants as try_as
use Rattle.mdl_context.specs.Contexts.{current_mark, last_ticket, waits_for_user_lock}
use Rattle.mdl_context.specs.Gains.{refusal_answered}
use Rattle.mdl_context.specs.MemoryLaws.{IsOwnCall}
use Rattle.mdl_context.specs.Releases.{releasing, releasing_tickets}
use Rattle.mdl_context.specs.Requests.{Outcome, acquiring, trying}
use Rattle.mdl_context.specs.Upgrades.{upgrading, downgrading}
use Rattle.mdl_context.specs.Waits.{giving_up_wait, resuming}
use Rattle.mdl_context.specs.Wishes.{Wish}
use Rattle.mdl_context.proofs.OwnCallLemmas.{own_made, own_acquiring, own_trying, own_resuming, own_giving_up_wait, own_giving_up, own_releasing, own_upgrading, own_downgrading}
use Rattle.mdl_rows.specs.declared.ending.Ending.{Ending}
use Rattle.mdl_rows.specs.declared.ending.Ending.TheVariants.{Answers, Misses, Falls, Starves}
use Rattle.mdl_rows.specs.declared.reply.Reply.{Reply}
use Rattle.mdl_rows.specs.declared.reply.Reply.TheVariants as reply
use Rattle.mdl_rows.specs.Endings.{Pause, Begins_to_wait, Waits_on, Faults, closing, pause_after, ending_of_error, ending_of_loss, ending_of_refusal, gone_at, letting_go, state_after, without_half}
use Rattle.mdl_rows.specs.MemoryLaws.{session_of_pause, SessionsKeepTheirNumber, StatementsCallForTheirSession}
use Rattle.mdl_rows.specs.Playing as playing
use Rattle.mdl_rows.specs.Playing.{play, with_context}
use Rattle.mdl_rows.specs.Rows.{Row}
use Rattle.mdl_rows.specs.Rows as row
use Rattle.mdl_rows.specs.Sessions.{Left, Session}
use Rattle.mdl_rows.specs.States.{half_lock, without_read_lock}
use Rattle.mdl_rows.specs.Statements.{row_of}
use Rattle.mdl_context.proofs.WhoLemmas.{StaysOf, of_acquiring, of_trying, of_resuming, of_giving_up_wait, of_giving_up, of_releasing, of_upgrading, of_downgrading}

-- a program is a session's: all its calls are made for it or for nobody, and wherever it pauses, the session has its number
record IsOwn (who : ℕ) (program : Program Pause) : Type 0 where
  calls : EachCall (IsMadeFor who) program
  keeps : Each (λ pause. (session_of_pause pause).context.who ≡ who) program

-- a pause
own_give : (pause : Pause) → IsOwn (session_of_pause pause).context.who (Give pause)
own_give pause = record { calls = tt; keeps = refl }

-- a call, and then what its answer leads to
own_ask : (who : ℕ) (call : Call) (next : Answer → Program Pause) → IsMadeFor who call → ((answer : Answer) → IsOwn who (next answer)) → IsOwn who (Ask call next)
own_ask who call next made later = record { calls = (made, λ answer. (later answer).calls); keeps = λ answer. (later answer).keeps }

-- memory is asked for
own_grow : (who : ℕ) (refused found : Program Pause) → IsOwn who refused → IsOwn who found → IsOwn who (Grow refused found)
own_grow who refused found one other = record { calls = (one.calls, other.calls); keeps = (one.keeps, other.keeps) }

-- what a context does, and then what it leads to
own_bind : {A : Type 0} (who : ℕ) (first : Program (Outcome A)) (next : Outcome A → Program Pause) →
    EachCall (IsOwnCall who) first → StaysOf {A = A} who first → ((outcome : Outcome A) → IsOwn outcome.1.who (next outcome)) →
    IsOwn who (first >>= next)
own_bind {A} who (Give x) next calls stays later = subst (λ w. IsOwn w (next x)) stays (later x)
own_bind {A} who (Ask call more) next calls stays later =
    own_ask who call (λ answer. more answer >>= next) (own_made who call calls.0)
    (λ answer. own_bind {A = A} who (more answer) next (calls.1 answer) (stays answer) later)
own_bind {A} who (Grow refused found) next calls stays later =
    own_grow who (refused >>= next) (found >>= next) (own_bind {A = A} who refused next calls.0 stays.0 later)
    (own_bind {A = A} who found next calls.1 stays.1 later)

-- ---- ends

own_ended : (ending : Ending) (session : Session) → IsOwn session.context.who (Give (pause_after ending session))
own_ended (Answers reply) session = own_give (pause_after (Answers reply) session)
own_ended (Misses number) session = own_give (pause_after (Misses number) session)
own_ended Falls session = own_give (pause_after Falls session)
own_ended Starves session = own_give (pause_after Starves session)

own_letting_go : (ending : Ending) (mark : Mark) (session : Session) → IsOwn session.context.who (letting_go ending mark session)
own_letting_go ending mark session =
    let gone = gone_at ending session.state.is_open mark session.context.kept in
    let after : Outcome (Unit {0}) → Session = λ outcome. record { context = outcome.1; state = state_after ending session.state; left = None } in
    own_bind {A = Unit {0}} session.context.who (releasing_tickets gone session.context) (λ outcome. Give (pause_after ending (after outcome)))
    (own_giving_up gone session.context) (of_giving_up gone session.context) (λ outcome. own_ended ending (after outcome))

own_closing : (ending : Ending) (mark : Mark) (session : Session) → IsOwn session.context.who (closing ending mark session)
own_closing ending mark session = by (half_lock (state_after ending session.state)) where
  by : (half : Option ℕ) → IsOwn session.context.who (without_half half ending mark (record session { left = None }))
  by None = own_letting_go ending mark (record session { left = None })
  by (Some global) =
      let after : Outcome (Unit {0}) → Session = λ outcome. record { context = outcome.1; state = without_read_lock session.state; left = None } in
      own_bind {A = Unit {0}} session.context.who (releasing global session.context) (λ outcome. letting_go ending mark (after outcome))
      (own_releasing global session.context) (of_releasing global session.context) (λ outcome. own_letting_go ending mark (after outcome))

-- ---- locks

own_untold : (mark : Mark) (session : Session) (outcome : Outcome Resume) → IsOwn outcome.1.who (playing.untold mark session outcome)
own_untold mark session (Ok (resume.Acquired id), context) =
    own_bind {A = Unit {0}} context.who (releasing id context) (λ outcome. closing Starves mark (with_context session outcome.1))
    (own_releasing id context) (of_releasing id context) (λ outcome. own_closing Starves mark (with_context session outcome.1))
own_untold mark session (Ok resume.Waiting, context) = own_closing Starves mark (with_context session context)
own_untold mark session (Ok (resume.Lost how), context) = own_closing Starves mark (with_context session context)
own_untold mark session (Err error, context) = own_closing Starves mark (with_context session context)

own_waiting : (wish : Wish) (left : Left) (session : Session) → IsOwn session.context.who (playing.beginning_to_wait wish left session)
own_waiting wish left session =
    let waits = Begins_to_wait wish.key wish.mode (playing.with_left session left) in
    own_grow session.context.who (giving_up_wait session.context >>= playing.untold left.mark session) (Give waits)
    (own_bind {A = Resume} session.context.who (giving_up_wait session.context) (playing.untold left.mark session) (own_giving_up_wait session.context)
    (of_giving_up_wait session.context) (own_untold left.mark session)) (own_give waits)

own_acquired : (wish : Wish) (rest : ℕ → Row Reply) (mark : Mark) (session : Session) (more : ℕ → Session → Program Pause) →
    ((id : ℕ) (after : Session) → IsOwn after.context.who (more id after)) → (outcome : Outcome Acquire) →
    IsOwn outcome.1.who (playing.acquired wish rest mark session more outcome)
own_acquired wish rest mark session more made (Ok (acquire.Acquired id), context) = made id (with_context session context)
own_acquired wish rest mark session more made (Ok (acquire.MustWait number), context) =
    own_waiting wish (record { rest = rest; mark = mark }) (with_context session context)
own_acquired wish rest mark session more made (Err error, context) = own_closing (ending_of_error error) mark (with_context session context)

own_tried : (mark : Mark) (session : Session) (more : Option ℕ → Session → Program Pause) →
    ((got : Option ℕ) (after : Session) → IsOwn after.context.who (more got after)) → (outcome : Outcome Tried) →
    IsOwn outcome.1.who (playing.tried mark session more outcome)
own_tried mark session more made (Ok (try_as.Acquired id), context) = made (Some id) (with_context session context)
own_tried mark session more made (Ok try_as.WouldWait, context) = made None (with_context session context)
own_tried mark session more made (Err error, context) = own_closing (ending_of_error error) mark (with_context session context)

-- ---- what stands

own_read : (mark : Mark) (session : Session) (more : VersionedDefinition → Program Pause) →
    ((standing : VersionedDefinition) → IsOwn session.context.who (more standing)) →
    (answer : Answer) → IsOwn session.context.who (playing.read_answered mark session more answer)
own_read mark session more made (Reads version definition) = made (record { version = version; definition = definition })
own_read mark session more made answer = own_closing (ending_of_refusal (refusal_answered answer)) mark session

own_change : (mark : Mark) (session : Session) (more : Program Pause) → IsOwn session.context.who more →
    (answer : Answer) → IsOwn session.context.who (playing.change_answered mark session more answer)
own_change mark session more made (Changed version) = made
own_change mark session more made answer = own_closing (ending_of_refusal (refusal_answered answer)) mark session

own_tables : (mark : Mark) (session : Session) (more : List ℕ → Program Pause) →
    ((places : List ℕ) → IsOwn session.context.who (more places)) →
    (answer : Answer) → IsOwn session.context.who (playing.tables_answered mark session more answer)
own_tables mark session more made (Tables places) = made places
own_tables mark session more made answer = own_closing (ending_of_refusal (refusal_answered answer)) mark session

own_key : (mark : Mark) (session : Session) (more : KeyName → Program Pause) →
    ((key : KeyName) → IsOwn session.context.who (more key)) →
    (answer : Answer) → IsOwn session.context.who (playing.key_answered mark session more answer)
own_key mark session more made (Key_is key) = made key
own_key mark session more made answer = own_closing (ending_of_refusal (refusal_answered answer)) mark session

-- ---- kills

-- a wait that another session has is killed, for nobody
own_told : (who target : ℕ) (more : Program Pause) → IsOwn who more → (answer : Answer) → IsOwn who (playing.wait_told target answer >>= (λ _. more))
own_told who target more made (Has_wait (Some number)) = own_ask who (Kill target number) (λ _. more) tt (λ _. made)
own_told who target more made _ = made

-- ---- all that may be asked for

own_play : (asked : Row Reply) (mark : Mark) (session : Session) → IsOwn session.context.who (play asked mark session)
own_play (row.Give reply) mark session = own_closing (Answers reply) mark session
own_play (row.Fail number) mark session = own_closing (Answers (reply.Error number)) mark session
own_play (row.Room rest) mark session =
    own_grow session.context.who (closing Starves mark session) (play rest mark session) (own_closing Starves mark session) (own_play rest mark session)
own_play (row.Look rest) mark session = own_play (rest session.state) mark session
own_play (row.Set change rest) mark session = own_play rest mark (record session { state = change session.state })
own_play (row.Here rest) mark session = own_play (rest (current_mark session.context.kept)) mark session
own_play (row.Acquire wish rest) mark session =
    let more = λ (id : ℕ) (after : Session). play (rest id) mark after in
    own_bind {A = Acquire} session.context.who (acquiring wish session.context) (playing.acquired wish rest mark session more)
    (own_acquiring wish session.context) (of_acquiring wish session.context)
    (own_acquired wish rest mark session more (λ id after. own_play (rest id) mark after))
own_play (row.Try_acquire wish rest) mark session =
    let more = λ (got : Option ℕ) (after : Session). play (rest got) mark after in
    own_bind {A = Tried} session.context.who (trying wish session.context) (playing.tried mark session more)
    (own_trying wish session.context) (of_trying wish session.context)
    (own_tried mark session more (λ got after. own_play (rest got) mark after))
own_play (row.Last key rest) mark session = own_play (rest (last_ticket key session.context)) mark session
own_play (row.Upgrade id key mode rest) mark session =
    let wish = playing.upgrade_wish key mode in
    let more = λ (id : ℕ) (after : Session). play (rest id) mark after in
    own_bind {A = Acquire} session.context.who (upgrading id mode session.context) (playing.acquired wish rest mark session more)
    (own_upgrading id mode session.context) (of_upgrading id mode session.context)
    (own_acquired wish rest mark session more (λ id after. own_play (rest id) mark after))
own_play (row.Downgrade id mode rest) mark session =
    own_bind {A = Unit {0}} session.context.who (downgrading id mode session.context) (λ outcome. play rest mark (with_context session outcome.1))
    (own_downgrading id mode session.context) (of_downgrading id mode session.context) (λ outcome. own_play rest mark (with_context session outcome.1))
own_play (row.Give_up which rest) mark session =
    let gone = which session.context.kept in
    own_bind {A = Unit {0}} session.context.who (releasing_tickets gone session.context) (λ outcome. play rest mark (with_context session outcome.1))
    (own_giving_up gone session.context) (of_giving_up gone session.context) (λ outcome. own_play rest mark (with_context session outcome.1))
own_play (row.Release id rest) mark session =
    own_bind {A = Unit {0}} session.context.who (releasing id session.context) (λ outcome. play rest mark (with_context session outcome.1))
    (own_releasing id session.context) (of_releasing id session.context) (λ outcome. own_play rest mark (with_context session outcome.1))
own_play (row.Keep rest) mark session = own_play rest mark (playing.all_kept session)
own_play (row.Read id rest) mark session =
    let more = λ (standing : VersionedDefinition). play (rest standing) mark session in
    own_ask session.context.who (Read_kept session.context.who id) (playing.read_answered mark session more) refl
    (own_read mark session more (λ standing. own_play (rest standing) mark session))
own_play (row.Redefine id change rest) mark session =
    let more = play rest mark session in
    own_ask session.context.who (Change_definition session.context.who id change) (playing.change_answered mark session more) refl
    (own_change mark session more (own_play rest mark session))
own_play (row.Tables_of schema rest) mark session =
    let more = λ (places : List ℕ). play (rest places) mark session in
    own_ask session.context.who (Tables_of session.context.who schema) (playing.tables_answered mark session more) refl
    (own_tables mark session more (λ places. own_play (rest places) mark session))
own_play (row.Key_of place rest) mark session =
    let more = λ (key : KeyName). play (rest key) mark session in
    own_ask session.context.who (Key_of session.context.who place) (playing.key_answered mark session more) refl
    (own_key mark session more (λ key. own_play (rest key) mark session))
own_play (row.Kill target rest) mark session =
    let more = play rest mark session in
    own_ask session.context.who (Wait_of target) (λ answer. playing.wait_told target answer >>= (λ _. more)) tt
    (own_told session.context.who target more (own_play rest mark session))

-- ---- what is left of a statement

own_resumed : (left : Left) (session : Session) (outcome : Outcome Resume) → IsOwn outcome.1.who (playing.resumed left session outcome)
own_resumed left session (Ok resume.Waiting, context) = own_give (Waits_on (playing.with_left (with_context session context) left))
own_resumed left session (Ok (resume.Acquired id), context) = own_play (left.rest id) left.mark (with_context session context)
own_resumed left session (Ok (resume.Lost how), context) =
    own_closing (ending_of_loss (waits_for_user_lock session.context) how) left.mark (with_context session context)
own_resumed left session (Err error, context) = own_closing (ending_of_error error) left.mark (with_context session context)

own_going_on : (left : Option Left) (session : Session) → IsOwn session.context.who (playing.going_on_with left session)
own_going_on None session = own_give (Faults session)
own_going_on (Some left) session =
    own_bind {A = Resume} session.context.who (resuming session.context) (playing.resumed left session) (own_resuming session.context)
    (of_resuming session.context) (own_resumed left session)

-- ---- the laws

pub rows_call : StatementsCallForTheirSession
rows_call session = (
  λ asked mark. (own_play asked mark session).calls,
  λ statement. (own_play (row_of statement) (current_mark session.context.kept) session).calls,
  (own_going_on session.left (record session { left = None })).calls,
)

pub rows_keep_number : SessionsKeepTheirNumber
rows_keep_number session = (
  λ asked mark. (own_play asked mark session).keeps,
  λ statement. (own_play (row_of statement) (current_mark session.context.kept) session).keeps,
  (own_going_on session.left (record session { left = None })).keeps,
)
