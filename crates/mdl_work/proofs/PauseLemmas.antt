-- Something is left of a statement just where it waits.
use Rattle.std.proofs.Common.{ℕ, Option, Some, None, Ok, Err, refl}
use Rattle.std.specs.Prelude.{List}
use Rattle.mdl_key.specs.Keys.{KeyName}
use Rattle.mdl_defs.specs.declared.versioned_definition.VersionedDefinition.{VersionedDefinition}
use Rattle.mdl_calls.specs.Words.{Answer, Reads, Changed, Tables, Key_is, Program, Give, Each}
use Rattle.mdl_calls.proofs.FaithfulLemmas.{each_then}
use Rattle.mdl_context.specs.declared.request.Acquire.{Acquire}
use Rattle.mdl_context.specs.declared.request.Acquire.TheVariants as acquire
use Rattle.mdl_context.specs.declared.request.Mark.{Mark}
use Rattle.mdl_context.specs.declared.request.Resume.{Resume}
use Rattle.mdl_context.specs.declared.request.Resume.TheVariants as resume
use Rattle.mdl_context.specs.declared.request.Tried.{Tried}
use Rattle.mdl_context.specs.declared.request.Tried.TheVariants as try_as
use Rattle.mdl_context.specs.Contexts.{current_mark, last_ticket, waits_for_user_lock}
use Rattle.mdl_context.specs.Gains.{refusal_answered}
use Rattle.mdl_context.specs.Releases.{releasing, releasing_tickets}
use Rattle.mdl_context.specs.Requests.{Outcome, acquiring, trying}
use Rattle.mdl_context.specs.Upgrades.{upgrading, downgrading}
use Rattle.mdl_context.specs.Waits.{giving_up_wait, resuming}
use Rattle.mdl_context.specs.Wishes.{Wish}
use Rattle.mdl_syntax.specs.declared.statement.Statement.{Statement}
use Rattle.mdl_rows.specs.declared.ending.Ending.{Ending}
use Rattle.mdl_rows.specs.declared.ending.Ending.TheVariants.{Answers, Misses, Falls, Starves}
use Rattle.mdl_rows.specs.declared.reply.Reply.{Reply}
use Rattle.mdl_rows.specs.declared.reply.Reply.TheVariants as reply
use Rattle.mdl_rows.specs.Endings.{Pause, pause_after, gone_at, state_after, letting_go, without_half, closing, ending_of_error, ending_of_loss, ending_of_refusal}
use Rattle.mdl_rows.specs.Playing as playing
use Rattle.mdl_rows.specs.Playing.{play, starting, going_on, with_context}
use Rattle.mdl_rows.specs.Rows.{Row}
use Rattle.mdl_rows.specs.Rows as row
use Rattle.mdl_rows.specs.Sessions.{Left, Session}
use Rattle.mdl_rows.specs.States.{half_lock, without_read_lock}
use Rattle.mdl_rows.specs.Statements.{row_of}
use Rattle.mdl_work.specs.Paces.{LeftWhileWaiting}

-- however a program pauses, something is left just where the statement waits
abbrev pub LeavesWhileWaiting : Program Pause → Type 0
LeavesWhileWaiting program = Each LeftWhileWaiting program

-- ---- ends

left_ended : (ending : Ending) (session : Session) → LeftWhileWaiting (pause_after ending (record session { left = None }))
left_ended (Answers reply) session = refl
left_ended (Misses number) session = refl
left_ended Falls session = refl
left_ended Starves session = tt

left_letting_go : (ending : Ending) (mark : Mark) (session : Session) → LeavesWhileWaiting (letting_go ending mark session)
left_letting_go ending mark session =
    let after : Outcome (Unit {0}) → Session = λ outcome. record { context = outcome.1; state = state_after ending session.state; left = None } in
    each_then {A = Outcome (Unit {0})} LeftWhileWaiting (releasing_tickets (gone_at ending session.state.is_open mark session.context.kept) session.context)
    (λ outcome. Give (pause_after ending (after outcome))) (λ outcome. left_ended ending (after outcome))

left_closing : (ending : Ending) (mark : Mark) (session : Session) → LeavesWhileWaiting (closing ending mark session)
left_closing ending mark session = by (half_lock (state_after ending session.state)) where
  by : (half : Option ℕ) → LeavesWhileWaiting (without_half half ending mark (record session { left = None }))
  by None = left_letting_go ending mark (record session { left = None })
  by (Some global) =
      let after : Outcome (Unit {0}) → Session = λ outcome. record { context = outcome.1; state = without_read_lock session.state; left = None } in
      each_then {A = Outcome (Unit {0})} LeftWhileWaiting (releasing global session.context) (λ outcome. letting_go ending mark (after outcome))
      (λ outcome. left_letting_go ending mark (after outcome))

-- ---- locks

left_untold : (mark : Mark) (session : Session) (outcome : Outcome Resume) → LeavesWhileWaiting (playing.untold mark session outcome)
left_untold mark session (Ok (resume.Acquired id), context) =
    each_then {A = Outcome (Unit {0})} LeftWhileWaiting (releasing id context) (λ outcome. closing Starves mark (with_context session outcome.1))
    (λ outcome. left_closing Starves mark (with_context session outcome.1))
left_untold mark session (Ok resume.Waiting, context) = left_closing Starves mark (with_context session context)
left_untold mark session (Ok (resume.Lost how), context) = left_closing Starves mark (with_context session context)
left_untold mark session (Err error, context) = left_closing Starves mark (with_context session context)

left_waiting : (wish : Wish) (left : Left) (session : Session) → LeavesWhileWaiting (playing.beginning_to_wait wish left session)
left_waiting wish left session =
    (each_then {A = Outcome Resume} LeftWhileWaiting (giving_up_wait session.context) (playing.untold left.mark session) (left_untold left.mark session), refl)

left_acquired : (wish : Wish) (rest : ℕ → Row Reply) (mark : Mark) (session : Session) (more : ℕ → Session → Program Pause) →
    ((id : ℕ) (after : Session) → LeavesWhileWaiting (more id after)) → (outcome : Outcome Acquire) →
    LeavesWhileWaiting (playing.acquired wish rest mark session more outcome)
left_acquired wish rest mark session more made (Ok (acquire.Acquired id), context) = made id (with_context session context)
left_acquired wish rest mark session more made (Ok (acquire.MustWait number), context) =
    left_waiting wish (record { rest = rest; mark = mark }) (with_context session context)
left_acquired wish rest mark session more made (Err error, context) = left_closing (ending_of_error error) mark (with_context session context)

left_tried : (mark : Mark) (session : Session) (more : Option ℕ → Session → Program Pause) →
    ((got : Option ℕ) (after : Session) → LeavesWhileWaiting (more got after)) → (outcome : Outcome Tried) →
    LeavesWhileWaiting (playing.tried mark session more outcome)
left_tried mark session more made (Ok (try_as.Acquired id), context) = made (Some id) (with_context session context)
left_tried mark session more made (Ok try_as.WouldWait, context) = made None (with_context session context)
left_tried mark session more made (Err error, context) = left_closing (ending_of_error error) mark (with_context session context)

-- ---- what stands

left_read : (mark : Mark) (session : Session) (more : VersionedDefinition → Program Pause) → ((standing : VersionedDefinition) → LeavesWhileWaiting (more standing)) →
    (answer : Answer) → LeavesWhileWaiting (playing.read_answered mark session more answer)
left_read mark session more made (Reads version definition) = made (record { version = version; definition = definition })
left_read mark session more made answer = left_closing (ending_of_refusal (refusal_answered answer)) mark session

left_change : (mark : Mark) (session : Session) (more : Program Pause) → LeavesWhileWaiting more →
    (answer : Answer) → LeavesWhileWaiting (playing.change_answered mark session more answer)
left_change mark session more made (Changed version) = made
left_change mark session more made answer = left_closing (ending_of_refusal (refusal_answered answer)) mark session

left_tables : (mark : Mark) (session : Session) (more : List ℕ → Program Pause) → ((places : List ℕ) → LeavesWhileWaiting (more places)) →
    (answer : Answer) → LeavesWhileWaiting (playing.tables_answered mark session more answer)
left_tables mark session more made (Tables places) = made places
left_tables mark session more made answer = left_closing (ending_of_refusal (refusal_answered answer)) mark session

left_key : (mark : Mark) (session : Session) (more : KeyName → Program Pause) → ((key : KeyName) → LeavesWhileWaiting (more key)) →
    (answer : Answer) → LeavesWhileWaiting (playing.key_answered mark session more answer)
left_key mark session more made (Key_is key) = made key
left_key mark session more made answer = left_closing (ending_of_refusal (refusal_answered answer)) mark session

-- ---- all that may be asked for

left_play : (asked : Row Reply) (mark : Mark) (session : Session) → LeavesWhileWaiting (play asked mark session)
left_play (row.Give reply) mark session = left_closing (Answers reply) mark session
left_play (row.Fail number) mark session = left_closing (Answers (reply.Error number)) mark session
left_play (row.Room rest) mark session = (left_closing Starves mark session, left_play rest mark session)
left_play (row.Look rest) mark session = left_play (rest session.state) mark session
left_play (row.Set change rest) mark session = left_play rest mark (record session { state = change session.state })
left_play (row.Here rest) mark session = left_play (rest (current_mark session.context.kept)) mark session
left_play (row.Acquire wish rest) mark session =
    let more = λ (id : ℕ) (after : Session). play (rest id) mark after in
    each_then {A = Outcome Acquire} LeftWhileWaiting (acquiring wish session.context) (playing.acquired wish rest mark session more)
    (left_acquired wish rest mark session more (λ id after. left_play (rest id) mark after))
left_play (row.Try_acquire wish rest) mark session =
    let more = λ (got : Option ℕ) (after : Session). play (rest got) mark after in
    each_then {A = Outcome Tried} LeftWhileWaiting (trying wish session.context) (playing.tried mark session more)
    (left_tried mark session more (λ got after. left_play (rest got) mark after))
left_play (row.Last key rest) mark session = left_play (rest (last_ticket key session.context)) mark session
left_play (row.Upgrade id key mode rest) mark session =
    let wish = playing.upgrade_wish key mode in
    let more = λ (id : ℕ) (after : Session). play (rest id) mark after in
    each_then {A = Outcome Acquire} LeftWhileWaiting (upgrading id mode session.context) (playing.acquired wish rest mark session more)
    (left_acquired wish rest mark session more (λ id after. left_play (rest id) mark after))
left_play (row.Downgrade id mode rest) mark session =
    each_then {A = Outcome (Unit {0})} LeftWhileWaiting (downgrading id mode session.context) (λ outcome. play rest mark (with_context session outcome.1))
    (λ outcome. left_play rest mark (with_context session outcome.1))
left_play (row.Give_up which rest) mark session =
    each_then {A = Outcome (Unit {0})} LeftWhileWaiting (releasing_tickets (which session.context.kept) session.context) (λ outcome. play rest mark (with_context session outcome.1))
    (λ outcome. left_play rest mark (with_context session outcome.1))
left_play (row.Release id rest) mark session =
    each_then {A = Outcome (Unit {0})} LeftWhileWaiting (releasing id session.context) (λ outcome. play rest mark (with_context session outcome.1))
    (λ outcome. left_play rest mark (with_context session outcome.1))
left_play (row.Keep rest) mark session = left_play rest mark (playing.all_kept session)
left_play (row.Read id rest) mark session =
    left_read mark session (λ standing. play (rest standing) mark session) (λ standing. left_play (rest standing) mark session)
left_play (row.Redefine id change rest) mark session = left_change mark session (play rest mark session) (left_play rest mark session)
left_play (row.Tables_of schema rest) mark session =
    left_tables mark session (λ places. play (rest places) mark session) (λ places. left_play (rest places) mark session)
left_play (row.Key_of place rest) mark session = left_key mark session (λ key. play (rest key) mark session) (λ key. left_play (rest key) mark session)
left_play (row.Kill target rest) mark session =
    each_then {A = Unit {0}} LeftWhileWaiting (playing.killing target) (λ _. play rest mark session) (λ _. left_play rest mark session)

pub left_starting : (statement : Statement) (session : Session) → LeavesWhileWaiting (starting statement session)
left_starting statement session = left_play (row_of statement) (current_mark session.context.kept) session

-- ---- what is left of a statement

left_resumed : (left : Left) (session : Session) (outcome : Outcome Resume) → LeavesWhileWaiting (playing.resumed left session outcome)
left_resumed left session (Ok resume.Waiting, context) = refl
left_resumed left session (Ok (resume.Acquired id), context) = left_play (left.rest id) left.mark (with_context session context)
left_resumed left session (Ok (resume.Lost how), context) =
    left_closing (ending_of_loss (waits_for_user_lock session.context) how) left.mark (with_context session context)
left_resumed left session (Err error, context) = left_closing (ending_of_error error) left.mark (with_context session context)

left_going_on_with : (left : Option Left) (session : Session) → LeavesWhileWaiting (playing.going_on_with left session)
left_going_on_with None session = tt
left_going_on_with (Some left) session =
    each_then {A = Outcome Resume} LeftWhileWaiting (resuming session.context) (playing.resumed left session) (left_resumed left session)

pub left_going_on : (session : Session) → LeavesWhileWaiting (going_on session)
left_going_on session = left_going_on_with session.left (record session { left = None })
