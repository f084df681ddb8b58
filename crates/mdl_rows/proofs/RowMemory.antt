-- Statements where memory is wanting: that all they can come to then is that they end for want of it.
use Rattle.std.proofs.Common.{ℕ, List, Option, Some, None, Ok, Err, refl, sym, subst}
use Rattle.mdl_key.specs.Keys.{KeyName}
use Rattle.mdl_defs.specs.declared.versioned_definition.VersionedDefinition.{VersionedDefinition}
use Rattle.mdl_calls.specs.Words.{Answer, Has_wait, Reads, Changed, Tables, Key_is, Program, Give, Each, IsFaithful, IsFrugal, ◌>>=◌}
use Rattle.mdl_calls.proofs.FaithfulLemmas.{each_then, faithful_bind, frugal_faithful}
use Rattle.mdl_context.specs.declared.request.Acquire.{Acquire}
use Rattle.mdl_context.specs.declared.request.Acquire.TheVariants as acquire
use Rattle.mdl_context.specs.declared.request.Mark.{Mark}
use Rattle.mdl_context.specs.declared.request.Resume.{Resume}
use Rattle.mdl_context.specs.declared.request.Resume.TheVariants as resume
use Rattle.mdl_context.specs.declared.request.Tried.{Tried}
use Rattle.mdl_context.specs.declared.request.Tried.TheVariants as try_as
use Rattle.mdl_context.specs.Contexts.{current_mark, last_ticket, waits_for_user_lock}
use Rattle.mdl_context.specs.Gains.{refusal_answered}
use Rattle.mdl_context.specs.MemoryLaws.{IsStarved}
use Rattle.mdl_context.specs.Releases.{releasing, releasing_tickets}
use Rattle.mdl_context.specs.Requests.{Outcome, acquiring, trying}
use Rattle.mdl_context.specs.Upgrades.{upgrading, downgrading}
use Rattle.mdl_context.specs.Waits.{giving_up_wait, resuming}
use Rattle.mdl_context.specs.Wishes.{Wish}
use Rattle.mdl_context.proofs.MemoryLemmas.{faithful_acquiring, faithful_trying, faithful_resuming, faithful_upgrading, frugal_downgrading, frugal_giving_up, frugal_releasing}
use Rattle.mdl_rows.specs.declared.ending.Ending.{Ending}
use Rattle.mdl_rows.specs.declared.ending.Ending.TheVariants.{Answers, Starves}
use Rattle.mdl_rows.specs.declared.reply.Reply.{Reply}
use Rattle.mdl_rows.specs.declared.reply.Reply.TheVariants as reply
use Rattle.mdl_rows.specs.Endings.{Pause, closing, ending_of_error, ending_of_loss, ending_of_refusal, gone_at, letting_go, pause_after, state_after, without_half}
use Rattle.mdl_rows.specs.MemoryLaws.{IsFault, StatementsTellOfWant}
use Rattle.mdl_rows.specs.Playing as playing
use Rattle.mdl_rows.specs.Playing.{play, with_context}
use Rattle.mdl_rows.specs.Rows.{Row}
use Rattle.mdl_rows.specs.Rows as row
use Rattle.mdl_rows.specs.Sessions.{Left, Session}
use Rattle.mdl_rows.specs.States.{half_lock, without_read_lock}
use Rattle.mdl_rows.specs.Statements.{row_of}

-- first what takes no memory, and then what tells of want of it
frugal_first : {A : Type 0} (first : Program A) (next : A → Program Pause) → IsFrugal first → ((x : A) → IsFaithful IsFault (next x)) →
    IsFaithful IsFault (first >>= next)
frugal_first {A} first next made later =
    faithful_bind {A = A} {B = Pause} (λ x. ⊥) IsFault first next (frugal_faithful {A = A} (λ x. ⊥) first made) (λ x none. absurd none) later

-- ---- ends

-- an end takes no memory
faithful_letting_go : (ending : Ending) (mark : Mark) (session : Session) → IsFaithful IsFault (letting_go ending mark session)
faithful_letting_go ending mark session =
    let gone = gone_at ending session.state.is_open mark session.context.kept in
    frugal_first {A = Outcome (Unit {0})} (releasing_tickets gone session.context)
    (λ outcome. Give (pause_after ending (record { context = outcome.1; state = state_after ending session.state; left = None })))
    (frugal_giving_up gone session.context) (λ _. tt)

faithful_closing : (ending : Ending) (mark : Mark) (session : Session) → IsFaithful IsFault (closing ending mark session)
faithful_closing ending mark session = by (half_lock (state_after ending session.state)) where
  by : (half : Option ℕ) → IsFaithful IsFault (without_half half ending mark (record session { left = None }))
  by None = faithful_letting_go ending mark (record session { left = None })
  by (Some global) =
      let after : Outcome (Unit {0}) → Session = λ outcome. record { context = outcome.1; state = without_read_lock session.state; left = None } in
      frugal_first {A = Outcome (Unit {0})} (releasing global session.context) (λ outcome. letting_go ending mark (after outcome))
      (frugal_releasing global session.context) (λ outcome. faithful_letting_go ending mark (after outcome))

-- an end for want of memory is told
each_letting_go : (mark : Mark) (session : Session) → Each IsFault (letting_go Starves mark session)
each_letting_go mark session =
    each_then {A = Outcome (Unit {0})} {B = Pause} IsFault
    (releasing_tickets (gone_at Starves session.state.is_open mark session.context.kept) session.context)
    (λ outcome. Give (pause_after Starves (record { context = outcome.1; state = state_after Starves session.state; left = None }))) (λ _. tt)

each_starves : (mark : Mark) (session : Session) → Each IsFault (closing Starves mark session)
each_starves mark session = by (half_lock session.state) where
  by : (half : Option ℕ) → Each IsFault (without_half half Starves mark (record session { left = None }))
  by None = each_letting_go mark (record session { left = None })
  by (Some global) =
      let after : Outcome (Unit {0}) → Session = λ outcome. record { context = outcome.1; state = without_read_lock session.state; left = None } in
      each_then {A = Outcome (Unit {0})} {B = Pause} IsFault (releasing global session.context) (λ outcome. letting_go Starves mark (after outcome))
      (λ outcome. each_letting_go mark (after outcome))

-- ---- locks

-- a wait whose key can't be told is given up
each_untold : (mark : Mark) (session : Session) (outcome : Outcome Resume) → Each IsFault (playing.untold mark session outcome)
each_untold mark session (Ok (resume.Acquired id), context) =
    each_then {A = Outcome (Unit {0})} {B = Pause} IsFault (releasing id context) (λ outcome. closing Starves mark (with_context session outcome.1))
    (λ outcome. each_starves mark (with_context session outcome.1))
each_untold mark session (Ok resume.Waiting, context) = each_starves mark (with_context session context)
each_untold mark session (Ok (resume.Lost how), context) = each_starves mark (with_context session context)
each_untold mark session (Err error, context) = each_starves mark (with_context session context)

faithful_waiting : (wish : Wish) (left : Left) (session : Session) → IsFaithful IsFault (playing.beginning_to_wait wish left session)
faithful_waiting wish left session = (
  each_then {A = Outcome Resume} {B = Pause} IsFault (giving_up_wait session.context) (playing.untold left.mark session) (each_untold left.mark session),
  tt,
)

faithful_acquired : (wish : Wish) (rest : ℕ → Row Reply) (mark : Mark) (session : Session) (more : ℕ → Session → Program Pause) →
    ((id : ℕ) (after : Session) → IsFaithful IsFault (more id after)) → (outcome : Outcome Acquire) →
    IsFaithful IsFault (playing.acquired wish rest mark session more outcome)
faithful_acquired wish rest mark session more made (Ok (acquire.Acquired id), context) = made id (with_context session context)
faithful_acquired wish rest mark session more made (Ok (acquire.MustWait number), context) =
    faithful_waiting wish (record { rest = rest; mark = mark }) (with_context session context)
faithful_acquired wish rest mark session more made (Err error, context) = faithful_closing (ending_of_error error) mark (with_context session context)

each_acquired : (wish : Wish) (rest : ℕ → Row Reply) (mark : Mark) (session : Session) (more : ℕ → Session → Program Pause) →
    (outcome : Outcome Acquire) → IsStarved outcome → Each IsFault (playing.acquired wish rest mark session more outcome)
each_acquired wish rest mark session more (result, context) e =
    subst (λ r. Each IsFault (playing.acquired wish rest mark session more (r, context))) (sym e) (each_starves mark (with_context session context))

faithful_tried : (mark : Mark) (session : Session) (more : Option ℕ → Session → Program Pause) →
    ((got : Option ℕ) (after : Session) → IsFaithful IsFault (more got after)) → (outcome : Outcome Tried) →
    IsFaithful IsFault (playing.tried mark session more outcome)
faithful_tried mark session more made (Ok (try_as.Acquired id), context) = made (Some id) (with_context session context)
faithful_tried mark session more made (Ok try_as.WouldWait, context) = made None (with_context session context)
faithful_tried mark session more made (Err error, context) = faithful_closing (ending_of_error error) mark (with_context session context)

each_tried : (mark : Mark) (session : Session) (more : Option ℕ → Session → Program Pause) → (outcome : Outcome Tried) → IsStarved outcome →
    Each IsFault (playing.tried mark session more outcome)
each_tried mark session more (result, context) e =
    subst (λ r. Each IsFault (playing.tried mark session more (r, context))) (sym e) (each_starves mark (with_context session context))

-- ---- what stands

faithful_read : (mark : Mark) (session : Session) (more : VersionedDefinition → Program Pause) → ((standing : VersionedDefinition) → IsFaithful IsFault (more standing)) →
    (answer : Answer) → IsFaithful IsFault (playing.read_answered mark session more answer)
faithful_read mark session more made (Reads version definition) = made (record { version = version; definition = definition })
faithful_read mark session more made answer = faithful_closing (ending_of_refusal (refusal_answered answer)) mark session

faithful_change : (mark : Mark) (session : Session) (more : Program Pause) → IsFaithful IsFault more →
    (answer : Answer) → IsFaithful IsFault (playing.change_answered mark session more answer)
faithful_change mark session more made (Changed version) = made
faithful_change mark session more made answer = faithful_closing (ending_of_refusal (refusal_answered answer)) mark session

faithful_tables : (mark : Mark) (session : Session) (more : List ℕ → Program Pause) → ((places : List ℕ) → IsFaithful IsFault (more places)) →
    (answer : Answer) → IsFaithful IsFault (playing.tables_answered mark session more answer)
faithful_tables mark session more made (Tables places) = made places
faithful_tables mark session more made answer = faithful_closing (ending_of_refusal (refusal_answered answer)) mark session

faithful_key : (mark : Mark) (session : Session) (more : KeyName → Program Pause) → ((key : KeyName) → IsFaithful IsFault (more key)) →
    (answer : Answer) → IsFaithful IsFault (playing.key_answered mark session more answer)
faithful_key mark session more made (Key_is key) = made key
faithful_key mark session more made answer = faithful_closing (ending_of_refusal (refusal_answered answer)) mark session

-- ---- kills

frugal_told : (target : ℕ) (answer : Answer) → IsFrugal (playing.wait_told target answer)
frugal_told target (Has_wait (Some number)) = (refl, λ _. tt)
frugal_told target _ = tt

frugal_killing : (target : ℕ) → IsFrugal (playing.killing target)
frugal_killing target = (refl, frugal_told target)

-- ---- all that may be asked for

faithful_play : (asked : Row Reply) (mark : Mark) (session : Session) → IsFaithful IsFault (play asked mark session)
faithful_play (row.Give reply) mark session = faithful_closing (Answers reply) mark session
faithful_play (row.Fail number) mark session = faithful_closing (Answers (reply.Error number)) mark session
faithful_play (row.Room rest) mark session = (each_starves mark session, faithful_play rest mark session)
faithful_play (row.Look rest) mark session = faithful_play (rest session.state) mark session
faithful_play (row.Set change rest) mark session = faithful_play rest mark (record session { state = change session.state })
faithful_play (row.Here rest) mark session = faithful_play (rest (current_mark session.context.kept)) mark session
faithful_play (row.Acquire wish rest) mark session =
    let more = λ (id : ℕ) (after : Session). play (rest id) mark after in
    faithful_bind {A = Outcome Acquire} {B = Pause} IsStarved IsFault (acquiring wish session.context) (playing.acquired wish rest mark session more)
    (faithful_acquiring wish session.context) (each_acquired wish rest mark session more)
    (faithful_acquired wish rest mark session more (λ id after. faithful_play (rest id) mark after))
faithful_play (row.Try_acquire wish rest) mark session =
    let more = λ (got : Option ℕ) (after : Session). play (rest got) mark after in
    faithful_bind {A = Outcome Tried} {B = Pause} IsStarved IsFault (trying wish session.context) (playing.tried mark session more)
    (faithful_trying wish session.context) (each_tried mark session more)
    (faithful_tried mark session more (λ got after. faithful_play (rest got) mark after))
faithful_play (row.Last key rest) mark session = faithful_play (rest (last_ticket key session.context)) mark session
faithful_play (row.Upgrade id key mode rest) mark session =
    let wish = playing.upgrade_wish key mode in
    let more = λ (id : ℕ) (after : Session). play (rest id) mark after in
    faithful_bind {A = Outcome Acquire} {B = Pause} IsStarved IsFault (upgrading id mode session.context) (playing.acquired wish rest mark session more)
    (faithful_upgrading id mode session.context) (each_acquired wish rest mark session more)
    (faithful_acquired wish rest mark session more (λ id after. faithful_play (rest id) mark after))
faithful_play (row.Downgrade id mode rest) mark session =
    frugal_first {A = Outcome (Unit {0})} (downgrading id mode session.context) (λ outcome. play rest mark (with_context session outcome.1))
    (frugal_downgrading id mode session.context) (λ outcome. faithful_play rest mark (with_context session outcome.1))
faithful_play (row.Give_up which rest) mark session =
    let gone = which session.context.kept in
    frugal_first {A = Outcome (Unit {0})} (releasing_tickets gone session.context) (λ outcome. play rest mark (with_context session outcome.1))
    (frugal_giving_up gone session.context) (λ outcome. faithful_play rest mark (with_context session outcome.1))
faithful_play (row.Release id rest) mark session =
    frugal_first {A = Outcome (Unit {0})} (releasing id session.context) (λ outcome. play rest mark (with_context session outcome.1))
    (frugal_releasing id session.context) (λ outcome. faithful_play rest mark (with_context session outcome.1))
faithful_play (row.Keep rest) mark session = faithful_play rest mark (playing.all_kept session)
faithful_play (row.Read id rest) mark session =
    let more = λ (standing : VersionedDefinition). play (rest standing) mark session in
    (λ takes. each_starves mark session, faithful_read mark session more (λ standing. faithful_play (rest standing) mark session))
faithful_play (row.Redefine id change rest) mark session =
    (λ takes. each_starves mark session, faithful_change mark session (play rest mark session) (faithful_play rest mark session))
faithful_play (row.Tables_of schema rest) mark session =
    let more = λ (places : List ℕ). play (rest places) mark session in
    (λ takes. each_starves mark session, faithful_tables mark session more (λ places. faithful_play (rest places) mark session))
faithful_play (row.Key_of place rest) mark session =
    let more = λ (key : KeyName). play (rest key) mark session in
    (λ takes. each_starves mark session, faithful_key mark session more (λ key. faithful_play (rest key) mark session))
faithful_play (row.Kill target rest) mark session =
    frugal_first {A = Unit {0}} (playing.killing target) (λ _. play rest mark session) (frugal_killing target) (λ _. faithful_play rest mark session)

-- ---- what is left of a statement

faithful_resumed : (left : Left) (session : Session) (outcome : Outcome Resume) → IsFaithful IsFault (playing.resumed left session outcome)
faithful_resumed left session (Ok resume.Waiting, context) = tt
faithful_resumed left session (Ok (resume.Acquired id), context) = faithful_play (left.rest id) left.mark (with_context session context)
faithful_resumed left session (Ok (resume.Lost how), context) =
    faithful_closing (ending_of_loss (waits_for_user_lock session.context) how) left.mark (with_context session context)
faithful_resumed left session (Err error, context) = faithful_closing (ending_of_error error) left.mark (with_context session context)

each_resumed : (left : Left) (session : Session) (outcome : Outcome Resume) → IsStarved outcome → Each IsFault (playing.resumed left session outcome)
each_resumed left session (result, context) e =
    subst (λ r. Each IsFault (playing.resumed left session (r, context))) (sym e) (each_starves left.mark (with_context session context))

faithful_going_on : (left : Option Left) (session : Session) → IsFaithful IsFault (playing.going_on_with left session)
faithful_going_on None session = tt
faithful_going_on (Some left) session =
    faithful_bind {A = Outcome Resume} {B = Pause} IsStarved IsFault (resuming session.context) (playing.resumed left session)
    (faithful_resuming session.context) (each_resumed left session) (faithful_resumed left session)

pub rows_tell : StatementsTellOfWant
rows_tell session = (
  λ asked mark. faithful_play asked mark session,
  λ statement. faithful_play (row_of statement) (current_mark session.context.kept) session,
  faithful_going_on session.left (record session { left = None }),
)
