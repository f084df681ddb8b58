-- A statement that fails has changed no definition, where it changes no more than one.
use Rattle.std.proofs.Common.{◌≡◌, ℕ, Option, Some, None, Ok, Err, inl, inr, refl, sym, subst}
use Rattle.std.specs.Option.{IfSome}
use Rattle.mdl_key.specs.Keys.{KeyName}
use Rattle.mdl_defs.specs.declared.change.Change.{Change}
use Rattle.mdl_defs.specs.declared.versioned_definition.VersionedDefinition.{VersionedDefinition}
use Rattle.mdl_calls.specs.Words.{Answer, Reads, Changed, Tables, Key_is, Has_wait, Read_kept, Change_definition, Tables_of, Key_of, Program, Give, Each, Runs}
use Rattle.mdl_calls.proofs.FaithfulLemmas.{calls_bind, each_reply, each_then}
use Rattle.mdl_core.specs.CoreJoins.{Joins}
use Rattle.mdl_core.specs.Cores.{Core}
use Rattle.mdl_context.specs.declared.request.Acquire.{Acquire}
use Rattle.mdl_context.specs.declared.request.Acquire.TheVariants as acquire
use Rattle.mdl_context.specs.declared.request.Mark.{Mark}
use Rattle.mdl_context.specs.declared.request.Resume.{Resume}
use Rattle.mdl_context.specs.declared.request.Resume.TheVariants as resume
use Rattle.mdl_context.specs.declared.request.Tried.{Tried}
use Rattle.mdl_context.specs.declared.request.Tried.TheVariants as try_as
use Rattle.mdl_context.specs.Contexts.{current_mark, last_ticket, waits_for_user_lock}
use Rattle.mdl_context.specs.Gains.{refusal_answered}
use Rattle.mdl_context.specs.Releases.{releasing, releasing_tickets}
use Rattle.mdl_context.specs.Requests.{Outcome, acquiring, trying}
use Rattle.mdl_context.specs.Upgrades.{upgrading, downgrading}
use Rattle.mdl_context.specs.Waits.{giving_up_wait, resuming}
use Rattle.mdl_context.specs.Wishes.{Wish}
use Rattle.mdl_rows.specs.declared.ending.Ending.{Ending}
use Rattle.mdl_rows.specs.declared.ending.Ending.TheVariants.{Answers, Misses, Falls, Starves}
use Rattle.mdl_rows.specs.declared.reply.Reply.{Reply}
use Rattle.mdl_rows.specs.declared.reply.Reply.TheVariants as reply
use Rattle.mdl_rows.specs.Endings.{Pause, closing, ending_of_error, ending_of_loss, ending_of_refusal, gone_at, letting_go, pause_after, state_after, without_half}
use Rattle.mdl_rows.specs.MemoryLaws.{session_of_pause}
use Rattle.mdl_rows.specs.Playing as playing
use Rattle.mdl_rows.specs.Playing.{play, with_context}
use Rattle.mdl_rows.specs.Rows.{Row}
use Rattle.mdl_rows.specs.Rows as row
use Rattle.mdl_rows.specs.Sessions.{Left, Session}
use Rattle.mdl_rows.specs.States.{half_lock, without_read_lock}
use Rattle.mdl_rows.specs.Statements.{row_of}
use Rattle.mdl_script_laws.specs.ChangesLast.{ChangesAtMostOnce, OnlyLowers}
use Rattle.mdl_script_laws.specs.Failures.{FailuresChangeNothing, HasFailed, HasOneLeft, SameDefinitions, WaitersHaveOneLeft}
use Rattle.mdl_script_laws.proofs.ChangeRows.{changes-once}
use Rattle.mdl_script_laws.proofs.OutcomeLemmas.{by-each}
use Rattle.mdl_script_laws.proofs.RowPauses.{AnyEnding, AnyTables, Follows, Rules, Told, any-endings, any-told, so-play, so-resumed}
use Rattle.mdl_script_laws.proofs.StillContexts.{AreStill, IsStill, still-acquiring, still-downgrading, still-giving_up, still-giving_up_wait, still-releasing, still-resuming, still-trying, still-upgrading}
use Rattle.mdl_script_laws.proofs.StillPlays.{At, at-answer, at-run, at-then}

-- ---- ends and waits change no definition

-- the session as its statement ends
abbrev session_after : Ending → Session → Outcome (Unit {0}) → Session
session_after ending session outcome = record { context = outcome.1; state = state_after ending session.state; left = None }

-- and without the lock of all writes, which was to become the global read lock
abbrev session_without : Session → Outcome (Unit {0}) → Session
session_without session outcome = record { context = outcome.1; state = without_read_lock session.state; left = None }

still-letting_go : (ending : Ending) (mark : Mark) (session : Session) → AreStill (letting_go ending mark session)
still-letting_go ending mark session =
    let gone = gone_at ending session.state.is_open mark session.context.kept in
    calls_bind {A = Outcome (Unit {0})} {B = Pause} IsStill (releasing_tickets gone session.context) (λ outcome. Give (pause_after ending (session_after ending session outcome)))
    (still-giving_up gone session.context) (λ _. tt)

still-closing : (ending : Ending) (mark : Mark) (session : Session) → AreStill (closing ending mark session)
still-closing ending mark session = by (half_lock (state_after ending session.state)) where
  by : (half : Option ℕ) → AreStill (without_half half ending mark (record session { left = None }))
  by None = still-letting_go ending mark (record session { left = None })
  by (Some global) =
      calls_bind {A = Outcome (Unit {0})} {B = Pause} IsStill (releasing global session.context) (λ outcome. letting_go ending mark (session_without session outcome))
      (still-releasing global session.context) (λ outcome. still-letting_go ending mark (session_without session outcome))

still-untold : (mark : Mark) (session : Session) (outcome : Outcome Resume) → AreStill (playing.untold mark session outcome)
still-untold mark session (Ok (resume.Acquired id), context) =
    calls_bind {A = Outcome (Unit {0})} {B = Pause} IsStill (releasing id context) (λ outcome. closing Starves mark (with_context session outcome.1))
    (still-releasing id context) (λ outcome. still-closing Starves mark (with_context session outcome.1))
still-untold mark session (Ok resume.Waiting, context) = still-closing Starves mark (with_context session context)
still-untold mark session (Ok (resume.Lost how), context) = still-closing Starves mark (with_context session context)
still-untold mark session (Err error, context) = still-closing Starves mark (with_context session context)

still-waiting : (wish : Wish) (left : Left) (session : Session) → AreStill (playing.beginning_to_wait wish left session)
still-waiting wish left session = (
  calls_bind {A = Outcome Resume} {B = Pause} IsStill (giving_up_wait session.context) (playing.untold left.mark session)
      (still-giving_up_wait session.context) (still-untold left.mark session),
  tt,
)

still-told : (target : ℕ) (answer : Answer) → AreStill (playing.wait_told target answer)
still-told target (Has_wait (Some number)) = (tt, λ _. tt)
still-told target (Has_wait None) = tt
still-told target _ = tt

-- ---- up to the first change

-- whatever is left behind the first change, the statement doesn't fail
abbrev NeverFails : (Row Reply → Type 0) → Type 0
NeverFails P = (asked : Row Reply) (mark : Mark) (session : Session) → P asked → Each (λ pause. HasFailed pause → ⊥) (play asked mark session)

module _ (from b : Core) (pause : Pause) (failed : HasFailed pause) where
  closed : (ending : Ending) (mark : Mark) (session : Session) (a : Core) → At from a → Runs Joins a (closing ending mark session) pause b → SameDefinitions from b
  closed ending mark session a at run = (at-run from (closing ending mark session) a b pause (still-closing ending mark session) at run).0

  kept-acquired : (wish : Wish) (rest : ℕ → Row Reply) (mark : Mark) (session : Session) (more : ℕ → Session → Program Pause) (a : Core) → At from a
      → ((id : ℕ) (after : Session) → Runs Joins a (more id after) pause b → SameDefinitions from b) → (outcome : Outcome Acquire)
      → Runs Joins a (playing.acquired wish rest mark session more outcome) pause b → SameDefinitions from b
  kept-acquired wish rest mark session more a at later (Ok (acquire.Acquired id), context) run = later id (with_context session context) run
  kept-acquired wish rest mark session more a at later (Ok (acquire.MustWait number), context) run =
      let left : Left = record { rest = rest; mark = mark } in
      (at-run from (playing.beginning_to_wait wish left (with_context session context)) a b pause (still-waiting wish left (with_context session context)) at run).0
  kept-acquired wish rest mark session more a at later (Err error, context) run = closed (ending_of_error error) mark (with_context session context) a at run

  kept-tried : (mark : Mark) (session : Session) (more : Option ℕ → Session → Program Pause) (a : Core) → At from a
      → ((got : Option ℕ) (after : Session) → Runs Joins a (more got after) pause b → SameDefinitions from b) → (outcome : Outcome Tried)
      → Runs Joins a (playing.tried mark session more outcome) pause b → SameDefinitions from b
  kept-tried mark session more a at later (Ok (try_as.Acquired id), context) run = later (Some id) (with_context session context) run
  kept-tried mark session more a at later (Ok try_as.WouldWait, context) run = later None (with_context session context) run
  kept-tried mark session more a at later (Err error, context) run = closed (ending_of_error error) mark (with_context session context) a at run

  kept-read : (mark : Mark) (session : Session) (more : VersionedDefinition → Program Pause) (a : Core) → At from a
      → ((standing : VersionedDefinition) → Runs Joins a (more standing) pause b → SameDefinitions from b) → (answer : Answer)
      → Runs Joins a (playing.read_answered mark session more answer) pause b → SameDefinitions from b
  kept-read mark session more a at later (Reads version definition) run = later (record { version = version; definition = definition }) run
  kept-read mark session more a at later answer run = closed (ending_of_refusal (refusal_answered answer)) mark session a at run

  kept-tables : (mark : Mark) (session : Session) (more : _ → Program Pause) (a : Core) → At from a
      → ((places : _) → Runs Joins a (more places) pause b → SameDefinitions from b) → (answer : Answer)
      → Runs Joins a (playing.tables_answered mark session more answer) pause b → SameDefinitions from b
  kept-tables mark session more a at later (Tables places) run = later places run
  kept-tables mark session more a at later answer run = closed (ending_of_refusal (refusal_answered answer)) mark session a at run

  kept-key : (mark : Mark) (session : Session) (more : KeyName → Program Pause) (a : Core) → At from a
      → ((key : KeyName) → Runs Joins a (more key) pause b → SameDefinitions from b) → (answer : Answer)
      → Runs Joins a (playing.key_answered mark session more answer) pause b → SameDefinitions from b
  kept-key mark session more a at later (Key_is key) run = later key run
  kept-key mark session more a at later answer run = closed (ending_of_refusal (refusal_answered answer)) mark session a at run

  -- the change itself: it is made, and the statement doesn't fail; or it is refused, and nothing was changed
  kept-change : (mark : Mark) (session : Session) (id : ℕ) (change : Change) (more : Program Pause) (a mid : Core) → At from a
      → Each (λ p. HasFailed p → ⊥) more → (answer : Answer) → Joins a (Change_definition session.context.who id change) answer mid
      → Runs Joins mid (playing.change_answered mark session more answer) pause b → SameDefinitions from b
  kept-change mark session id change more a mid at done (Changed version) joins run =
      absurd (each_reply Joins (λ p. HasFailed p → ⊥) more mid b pause done run failed)
  kept-change mark session id change more a mid at done answer joins run =
      closed (ending_of_refusal (refusal_answered answer)) mark session mid
      (at-answer from a mid (Change_definition session.context.who id change) answer tt at joins) run

  kept-play : (asked : Row Reply) (mark : Mark) (session : Session) (a : Core) → At from a → NeverFails OnlyLowers → ChangesAtMostOnce asked
      → Runs Joins a (play asked mark session) pause b → SameDefinitions from b
  kept-play (row.Give told) mark session a at never so run = closed (Answers told) mark session a at run
  kept-play (row.Fail number) mark session a at never so run = closed (Answers (reply.Error number)) mark session a at run
  kept-play (row.Room rest) mark session a at never so (inl run) = closed Starves mark session a at run
  kept-play (row.Room rest) mark session a at never so (inr run) = kept-play rest mark session a at never so run
  kept-play (row.Look rest) mark session a at never so run = kept-play (rest session.state) mark session a at never (so session.state) run
  kept-play (row.Set change rest) mark session a at never so run =
      kept-play rest mark (record session { state = change session.state }) a at never so run
  kept-play (row.Here rest) mark session a at never so run =
      let here = current_mark session.context.kept in kept-play (rest here) mark session a at never (so here) run
  kept-play (row.Acquire wish rest) mark session a at never so run =
      let more = λ (id : ℕ) (after : Session). play (rest id) mark after in
      at-then {A = Outcome Acquire} {B = Pause} from (SameDefinitions from b) (acquiring wish session.context) (playing.acquired wish rest mark session more) a b pause
      (still-acquiring wish session.context) at
      (λ outcome mid now. kept-acquired wish rest mark session more mid now (λ id after. kept-play (rest id) mark after mid now never (so id)) outcome) run
  kept-play (row.Try_acquire wish rest) mark session a at never so run =
      let more = λ (got : Option ℕ) (after : Session). play (rest got) mark after in
      at-then {A = Outcome Tried} {B = Pause} from (SameDefinitions from b) (trying wish session.context) (playing.tried mark session more) a b pause
      (still-trying wish session.context) at
      (λ outcome mid now. kept-tried mark session more mid now (λ got after. kept-play (rest got) mark after mid now never (so got)) outcome) run
  kept-play (row.Last key rest) mark session a at never so run =
      let held = last_ticket key session.context in kept-play (rest held) mark session a at never (so held) run
  kept-play (row.Upgrade id key mode rest) mark session a at never so run =
      let wish = playing.upgrade_wish key mode in
      let more = λ (new : ℕ) (after : Session). play (rest new) mark after in
      at-then {A = Outcome Acquire} {B = Pause} from (SameDefinitions from b) (upgrading id mode session.context) (playing.acquired wish rest mark session more) a b pause
      (still-upgrading id mode session.context) at
      (λ outcome mid now. kept-acquired wish rest mark session more mid now (λ new after. kept-play (rest new) mark after mid now never (so new)) outcome) run
  kept-play (row.Downgrade id mode rest) mark session a at never so run =
      at-then {A = Outcome (Unit {0})} {B = Pause} from (SameDefinitions from b) (downgrading id mode session.context)
      (λ outcome. play rest mark (with_context session outcome.1)) a b pause (still-downgrading id mode session.context) at
      (λ outcome mid now. kept-play rest mark (with_context session outcome.1) mid now never so) run
  kept-play (row.Give_up which rest) mark session a at never so run =
      at-then {A = Outcome (Unit {0})} {B = Pause} from (SameDefinitions from b) (releasing_tickets (which session.context.kept) session.context)
      (λ outcome. play rest mark (with_context session outcome.1)) a b pause (still-giving_up (which session.context.kept) session.context) at
      (λ outcome mid now. kept-play rest mark (with_context session outcome.1) mid now never so) run
  kept-play (row.Release id rest) mark session a at never so run =
      at-then {A = Outcome (Unit {0})} {B = Pause} from (SameDefinitions from b) (releasing id session.context)
      (λ outcome. play rest mark (with_context session outcome.1)) a b pause (still-releasing id session.context) at
      (λ outcome mid now. kept-play rest mark (with_context session outcome.1) mid now never so) run
  kept-play (row.Keep rest) mark session a at never so run = kept-play rest mark (playing.all_kept session) a at never so run
  kept-play (row.Read id rest) mark session a at never so (answer, mid, joins, run) =
      let now = at-answer from a mid (Read_kept session.context.who id) answer tt at joins in
      kept-read mark session (λ standing. play (rest standing) mark session) mid now
      (λ standing. kept-play (rest standing) mark session mid now never (so standing)) answer run
  kept-play (row.Redefine id change rest) mark session a at never so (answer, mid, joins, run) =
      kept-change mark session id change (play rest mark session) a mid at (never rest mark session so) answer joins run
  kept-play (row.Tables_of schema rest) mark session a at never so (answer, mid, joins, run) =
      let now = at-answer from a mid (Tables_of session.context.who schema) answer tt at joins in
      kept-tables mark session (λ places. play (rest places) mark session) mid now
      (λ places. kept-play (rest places) mark session mid now never (so places)) answer run
  kept-play (row.Key_of place rest) mark session a at never so (answer, mid, joins, run) =
      let now = at-answer from a mid (Key_of session.context.who place) answer tt at joins in
      kept-key mark session (λ key. play (rest key) mark session) mid now (λ key. kept-play (rest key) mark session mid now never (so key)) answer run
  kept-play (row.Kill target rest) mark session a at never so run =
      at-then {A = Unit {0}} {B = Pause} from (SameDefinitions from b) (playing.killing target) (λ _. play rest mark session) a b pause
      (tt, still-told target) at (λ _ mid now. kept-play rest mark session mid now never so) run

  kept-resumed : (left : Left) (session : Session) (a : Core) → At from a → NeverFails OnlyLowers → ((id : ℕ) → ChangesAtMostOnce (left.rest id))
      → (outcome : Outcome Resume) → Runs Joins a (playing.resumed left session outcome) pause b → SameDefinitions from b
  kept-resumed left session a at never so (Ok resume.Waiting, context) (same, here) = subst (SameDefinitions from) here at.0
  kept-resumed left session a at never so (Ok (resume.Acquired id), context) run = kept-play (left.rest id) left.mark (with_context session context) a at never (so id) run
  kept-resumed left session a at never so (Ok (resume.Lost how), context) run =
      closed (ending_of_loss (waits_for_user_lock session.context) how) left.mark (with_context session context) a at run
  kept-resumed left session a at never so (Err error, context) run = closed (ending_of_error error) left.mark (with_context session context) a at run

  kept-going : (left : Option Left) (session : Session) (a : Core) → At from a → NeverFails OnlyLowers
      → IfSome left (λ (l : Left). (id : ℕ) → ChangesAtMostOnce (l.rest id)) → Runs Joins a (playing.going_on_with left session) pause b → SameDefinitions from b
  kept-going None session a at never so (same, here) = subst (SameDefinitions from) here at.0
  kept-going (Some left) session a at never so run =
      at-then {A = Outcome Resume} {B = Pause} from (SameDefinitions from b) (resuming session.context) (playing.resumed left session) a b pause
      (still-resuming session.context) at (λ outcome mid now. kept-resumed left session mid now never so outcome) run

-- ---- behind the only change

-- this is so of how a statement ends that was done
done-closing : (mark : Mark) (session : Session) → Each (λ pause. HasFailed pause → ⊥) (closing (Answers reply.Ok) mark session)
done-closing mark session = by (half_lock session.state) where
  by : (half : Option ℕ) → Each (λ pause. HasFailed pause → ⊥) (without_half half (Answers reply.Ok) mark (record session { left = None }))
  by None =
      each_then {A = Outcome (Unit {0})} {B = Pause} (λ pause. HasFailed pause → ⊥)
      (releasing_tickets (gone_at (Answers reply.Ok) session.state.is_open mark session.context.kept) session.context) _ (λ _ none. none)
  by (Some global) =
      each_then {A = Outcome (Unit {0})} {B = Pause} (λ pause. HasFailed pause → ⊥) (releasing global session.context)
      (λ outcome. letting_go (Answers reply.Ok) mark (session_without session outcome))
      (λ outcome. each_then {A = Outcome (Unit {0})} {B = Pause} (λ pause. HasFailed pause → ⊥)
      (releasing_tickets (gone_at (Answers reply.Ok) session.state.is_open mark outcome.1.kept) outcome.1) _ (λ _ none. none))

lowers-never : NeverFails OnlyLowers
lowers-never (row.Give told) mark session so =
    subst (λ r. Each (λ pause. HasFailed pause → ⊥) (closing (Answers r) mark session)) (sym so) (done-closing mark session)
lowers-never (row.Downgrade id mode rest) mark session so =
    each_then {A = Outcome (Unit {0})} {B = Pause} (λ pause. HasFailed pause → ⊥) (downgrading id mode session.context)
    (λ outcome. play rest mark (with_context session outcome.1)) (λ outcome. lowers-never rest mark (with_context session outcome.1) so)
lowers-never asked mark session so = absurd so

pub failures-nothing : FailuresChangeNothing
failures-nothing session a b pause sound failed = (
  (λ asked one.
      kept-play a b pause failed (row_of asked) (current_mark session.context.kept) session a ((λ _. refl), sound) lowers-never (changes-once asked one)),
  kept-going a b pause failed session.left (record session { left = None }) a ((λ _. refl), sound) lowers-never,
)

-- ---- what is left of one that waits

-- a statement that has ended has nothing left
left-ended : (ending : Ending) (session : Session) → session.left ≡ None → HasOneLeft (session_of_pause (pause_after ending session))
left-ended (Answers told) session none = subst (λ left. IfSome left (λ (l : Left). (id : ℕ) → ChangesAtMostOnce (l.rest id))) (sym none) tt
left-ended (Misses number) session none = subst (λ left. IfSome left (λ (l : Left). (id : ℕ) → ChangesAtMostOnce (l.rest id))) (sym none) tt
left-ended Falls session none = subst (λ left. IfSome left (λ (l : Left). (id : ℕ) → ChangesAtMostOnce (l.rest id))) (sym none) tt
left-ended Starves session none = subst (λ left. IfSome left (λ (l : Left). (id : ℕ) → ChangesAtMostOnce (l.rest id))) (sym none) tt

abbrev LeavesOne : Pause → Type 0
LeavesOne pause = HasOneLeft (session_of_pause pause)

left-letting_go : (ending : Ending) (mark : Mark) (session : Session) → Each LeavesOne (letting_go ending mark session)
left-letting_go ending mark session =
    each_then {A = Outcome (Unit {0})} {B = Pause} LeavesOne (releasing_tickets (gone_at ending session.state.is_open mark session.context.kept) session.context)
    (λ outcome. Give (pause_after ending (session_after ending session outcome))) (λ outcome. left-ended ending (session_after ending session outcome) refl)

left-closing : (ending : Ending) (mark : Mark) (session : Session) → Each LeavesOne (closing ending mark session)
left-closing ending mark session = by (half_lock (state_after ending session.state)) where
  by : (half : Option ℕ) → Each LeavesOne (without_half half ending mark (record session { left = None }))
  by None = left-letting_go ending mark (record session { left = None })
  by (Some global) =
      each_then {A = Outcome (Unit {0})} {B = Pause} LeavesOne (releasing global session.context) (λ outcome. letting_go ending mark (session_without session outcome))
      (λ outcome. left-letting_go ending mark (session_without session outcome))

-- behind the only change there is none
lowers-once : (asked : Row Reply) → OnlyLowers asked → ChangesAtMostOnce asked
lowers-once (row.Give told) so = tt
lowers-once (row.Downgrade id mode rest) so = lowers-once rest so
lowers-once asked so = absurd so

follows-once : (asked : Row Reply) → ChangesAtMostOnce asked → Follows AnyTables ChangesAtMostOnce AnyEnding asked
follows-once (row.Give told) so = tt
follows-once (row.Fail number) so = tt
follows-once (row.Tables_of schema rest) so = λ tables told. so tables
follows-once (row.Redefine id change rest) so = lowers-once rest so
follows-once _ so = so

rules-once : (mark : Mark) → Rules AnyTables LeavesOne mark AnyEnding ChangesAtMostOnce
rules-once mark = record {
  endings = any-endings;
  closes = λ ending session any. left-closing ending mark session;
  follows = follows-once;
  waits = λ wish rest session so. so;
  raises = λ id key mode rest session so. so;
}

left-going : (left : Option Left) (session : Session) → session.left ≡ None → IfSome left (λ (l : Left). (id : ℕ) → ChangesAtMostOnce (l.rest id))
    → Each LeavesOne (playing.going_on_with left session)
left-going None session none so = subst (λ left. IfSome left (λ (l : Left). (id : ℕ) → ChangesAtMostOnce (l.rest id))) (sym none) tt
left-going (Some left) session none so =
    each_then {A = Outcome Resume} {B = Pause} LeavesOne (resuming session.context) (playing.resumed left session)
    (λ outcome. by-each (Told AnyTables) LeavesOne (playing.resumed left session outcome) any-told
    (so-resumed AnyTables LeavesOne AnyEnding ChangesAtMostOnce left session (rules-once left.mark) (λ context. so) so outcome))

pub waiters-one : WaitersHaveOneLeft
waiters-one session = (
  (λ asked one.
      let mark = current_mark session.context.kept in
      by-each (Told AnyTables) LeavesOne (play (row_of asked) mark session) any-told
      (so-play AnyTables LeavesOne mark AnyEnding ChangesAtMostOnce (rules-once mark) (row_of asked) session (changes-once asked one))),
  left-going session.left (record session { left = None }) refl,
)
