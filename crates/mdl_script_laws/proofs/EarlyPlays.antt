-- A statement that ends by an early error has changed nothing, and none that has waited ends so.
use Rattle.std.proofs.Common.{◌≡◌, ℕ, Bool, true, false, Option, Some, None, inl, inr, refl, sym, ap, subst, ◌∙◌}
use Rattle.std.proofs.lemmas.Bool.{false≢true}
use Rattle.mdl_defs.specs.declared.versioned_definition.VersionedDefinition.{VersionedDefinition}
use Rattle.mdl_calls.specs.Words.{Answer, Reads, Program, Give, ◌>>=◌, Each, Read_kept, Runs}
use Rattle.mdl_calls.specs.declared.answers.Held.{Held}
use Rattle.mdl_calls.specs.declared.answers.Settled.{Settled}
use Rattle.mdl_calls.specs.declared.answers.Settled.TheVariants as settled
use Rattle.mdl_calls.specs.declared.space_error.SpaceError.{SpaceError}
use Rattle.mdl_calls.specs.declared.space_error.SpaceError.TheVariants as space
use Rattle.mdl_calls.proofs.FaithfulLemmas.{each_reply, each_then}
use Rattle.mdl_core.specs.CoreCalls.{held_ticket, reading_of}
use Rattle.mdl_core.specs.CoreJoins.{Joins}
use Rattle.mdl_core.specs.Cores.{Core}
use Rattle.mdl_context.specs.declared.context_error.ContextError.{ContextError}
use Rattle.mdl_context.specs.declared.context_error.ContextError.TheVariants.{Space}
use Rattle.mdl_context.specs.declared.request.Mark.{Mark}
use Rattle.mdl_context.specs.declared.request.Resume.{Resume}
use Rattle.mdl_context.specs.Contexts.{ContextView, current_mark}
use Rattle.mdl_context.specs.Gains.{refusal_answered}
use Rattle.mdl_context.specs.Releases.{releasing, releasing_tickets}
use Rattle.mdl_context.specs.Requests.{Outcome}
use Rattle.mdl_context.specs.Waits.{resuming}
use Rattle.mdl_rows.specs.declared.ending.Ending.{Ending}
use Rattle.mdl_rows.specs.declared.ending.Ending.TheVariants.{Answers, Misses, Falls, Starves}
use Rattle.mdl_rows.specs.declared.reply.Reply.{Reply}
use Rattle.mdl_rows.specs.declared.reply.Reply.TheVariants as reply
use Rattle.mdl_rows.specs.Endings.{Pause, Ends, Begins_to_wait, Waits_on, Faults, closing, pause_after, ending_of_error, ending_of_loss, ending_of_refusal, gone_at, letting_go, state_after, without_half}
use Rattle.mdl_rows.specs.Playing as playing
use Rattle.mdl_rows.specs.Playing.{play}
use Rattle.mdl_rows.specs.Rows.{Row}
use Rattle.mdl_rows.specs.Rows as row
use Rattle.mdl_rows.specs.Sessions.{Left, Session}
use Rattle.mdl_rows.specs.States.{half_lock, without_read_lock}
use Rattle.mdl_rows.specs.Statements.{row_of}
use Rattle.mdl_syntax.specs.declared.statement.Statement.{Statement}
use Rattle.mdl_script_laws.specs.RefusalsFirst.{IsTidy, EarlyErrorsChangeNothing, is_early}
use Rattle.mdl_script_laws.proofs.EarlyRows.{ChecksFirst, FailsLate, IsLate, statements_check}
use Rattle.mdl_script_laws.proofs.RowPauses.{AnyTables, Follows, Rules, Told, any-told, so-play, so-resumed}
use Rattle.mdl_script_laws.proofs.OutcomeLemmas.{by-each}
use Rattle.mdl_script_laws.proofs.TidyLemmas.{none-gone, releasing-nothing}

-- what is left of a statement never fails by an early error
abbrev pub IsLateLeft : Option Left → Type 0
IsLateLeft None = Unit {0}
IsLateLeft (Some left) = (id : ℕ) → FailsLate IsLate (left.rest id)

-- a statement hasn't ended by one, and where it waits, it never will
abbrev pub IsLatePause : Pause → Type 0
IsLatePause (Ends reply session) = IsLate reply
IsLatePause (Begins_to_wait key mode session) = IsLateLeft session.left
IsLatePause (Waits_on session) = IsLateLeft session.left
IsLatePause (Faults session) = Unit {0}

abbrev pub AllLate : Program Pause → Type 0
AllLate program = Each IsLatePause program

-- ---- ends

-- an ending by none
abbrev IsLateEnding : Ending → Type 0
IsLateEnding (Answers reply) = IsLate reply
IsLateEnding (Misses number) = is_early number ≡ false
IsLateEnding _ = Unit {0}

late_ended : (ending : Ending) (session : Session) → IsLateEnding ending → IsLatePause (pause_after ending session)
late_ended (Answers reply) session so = so
late_ended (Misses number) session so = so
late_ended Falls session so = refl
late_ended Starves session so = tt

late_refusal : (refusal : SpaceError) → IsLateEnding (ending_of_refusal refusal)
late_refusal space.OutOfMemory = tt
late_refusal space.NoPlace = refl
late_refusal _ = refl

late_error : (error : ContextError) → IsLateEnding (ending_of_error error)
late_error (Space refusal) = late_refusal refusal
late_error _ = refl

late_loss : (user : Bool) (how : Settled) → IsLateEnding (ending_of_loss user how)
late_loss true settled.Timeout = tt
late_loss false settled.Timeout = refl
late_loss user settled.Killed = refl
late_loss true _ = refl
late_loss false _ = tt

late_letting_go : (ending : Ending) (mark : Mark) (session : Session) → IsLateEnding ending → AllLate (letting_go ending mark session)
late_letting_go ending mark session so =
    each_then {A = Outcome (Unit {0})} {B = Pause} IsLatePause (releasing_tickets (gone_at ending session.state.is_open mark session.context.kept) session.context)
    (λ outcome. Give (pause_after ending (record { context = outcome.1; state = state_after ending session.state; left = None })))
    (λ outcome. late_ended ending (record { context = outcome.1; state = state_after ending session.state; left = None }) so)

late_closing : (ending : Ending) (mark : Mark) (session : Session) → IsLateEnding ending → AllLate (closing ending mark session)
late_closing ending mark session so = by (half_lock (state_after ending session.state)) where
  by : (half : Option ℕ) → AllLate (without_half half ending mark (record session { left = None }))
  by None = late_letting_go ending mark (record session { left = None }) so
  by (Some global) =
      let after : Outcome (Unit {0}) → Session = λ outcome. record { context = outcome.1; state = without_read_lock session.state; left = None } in
      each_then {A = Outcome (Unit {0})} {B = Pause} IsLatePause (releasing global session.context) (λ outcome. letting_go ending mark (after outcome))
      (λ outcome. late_letting_go ending mark (after outcome) so)

-- ---- what never fails so

follows_late : (asked : Row Reply) → FailsLate IsLate asked → Follows AnyTables (FailsLate IsLate) IsLateEnding asked
follows_late (row.Set change rest) so = so.1
follows_late (row.Tables_of schema rest) so = λ tables told. so tables
follows_late _ so = so

rules_late : (mark : Mark) → Rules AnyTables IsLatePause mark IsLateEnding (FailsLate IsLate)
rules_late mark = record {
  endings = record { starves = tt; refused = late_refusal; erred = late_error; lost = late_loss };
  closes = λ ending session so. late_closing ending mark session so;
  follows = follows_late;
  waits = λ wish rest session so. so;
  raises = λ id key mode rest session so. so;
}

late_play : (asked : Row Reply) (mark : Mark) (session : Session) → FailsLate IsLate asked → AllLate (play asked mark session)
late_play asked mark session so =
    by-each (Told AnyTables) IsLatePause (play asked mark session) any-told
    (so-play AnyTables IsLatePause mark IsLateEnding (FailsLate IsLate) (rules_late mark) asked session so)

-- a statement that has waited never ends so
pub late_going_on : (left : Option Left) (session : Session) → IsLateLeft left → AllLate (playing.going_on_with left session)
late_going_on None session so = tt
late_going_on (Some left) session so =
    each_then {A = Outcome Resume} {B = Pause} IsLatePause (resuming session.context) (playing.resumed left session)
    (λ outcome. by-each (Told AnyTables) IsLatePause (playing.resumed left session outcome) any-told
    (so-resumed AnyTables IsLatePause IsLateEnding (FailsLate IsLate) left session (rules_late left.mark) (λ context. so) so outcome))

-- ---- what fails so before it changes anything

-- it hasn't ended by an early error, or nothing has changed
abbrev pub IsUntouched : Session → Core → Pause → Core → Type 0
IsUntouched session a (Ends (reply.Error number) after) b = is_early number ≡ true → (after ≡ session) × (b ≡ a)
IsUntouched session a pause b = IsLatePause pause

late_untouched : (session : Session) (a b : Core) (pause : Pause) → IsLatePause pause → IsUntouched session a pause b
late_untouched session a b (Ends (reply.Error number) after) so = λ early. absurd (false≢true (sym so ∙ early))
late_untouched session a b (Ends reply.Ok after) so = so
late_untouched session a b (Ends (reply.Columns tables) after) so = so
late_untouched session a b (Ends (reply.Number truth) after) so = so
late_untouched session a b (Ends reply.Null after) so = so
late_untouched session a b (Begins_to_wait key mode after) so = so
late_untouched session a b (Waits_on after) so = so
late_untouched session a b (Faults after) so = so

run_late : (session : Session) (program : Program Pause) (a b c : Core) (pause : Pause) → AllLate program → Runs Joins a program pause b
    → IsUntouched session c pause b
run_late session program a b c pause so run = late_untouched session c b pause (each_reply Joins IsLatePause program a b pause so run)

-- a tidy session gives nothing up
same_session : (session : Session) → session.left ≡ None
    → let after : Session = record { context = session.context; state = session.state; left = None } in after ≡ session
same_session session over = λ i. record { context = session.context; state = session.state; left = sym over i }

answered_tidy : (answer : Reply) (mark : Mark) (session : Session) (a b : Core) (pause : Pause) → IsTidy session
    → Runs Joins a (closing (Answers answer) mark session) pause b
    → (Ends answer session ≡ pause) × (b ≡ a)
answered_tidy answer mark session a b pause tidy run =
    (ap (Ends answer) (sym (same_session session tidy.over)) ∙ done.0, sym done.1)
  where
    after : ContextView → Session
    after context = record { context = context; state = session.state; left = None }

    done : (Ends answer (after session.context) ≡ pause) × (a ≡ b)
    done =
        subst (λ program. Runs Joins a (program >>= (λ outcome. Give (Ends answer (after outcome.1)))) pause b)
        (releasing-nothing session.context tidy.places)
        (subst (λ gone. Runs Joins a (releasing_tickets gone session.context >>= (λ outcome. Give (Ends answer (after outcome.1)))) pause b)
        (none-gone session.state.is_open answer mark session.context.kept tidy.statement tidy.transaction)
        (subst (λ half. Runs Joins a (without_half half (Answers answer) mark (record session { left = None })) pause b) tidy.whole run))

answered_untouched : (answer : Reply) (mark : Mark) (session : Session) (a b : Core) (pause : Pause) → IsTidy session
    → Runs Joins a (closing (Answers answer) mark session) pause b
    → IsUntouched session a pause b
answered_untouched answer mark session a b pause tidy run =
    let h = answered_tidy answer mark session a b pause tidy run in subst (λ p. IsUntouched session a p b) h.0 (by answer h.1)
  where
    by : (said : Reply) → b ≡ a → IsUntouched session a (Ends said session) b
    by (reply.Error number) same = λ _. (refl, same)
    by reply.Ok same = tt
    by (reply.Columns tables) same = tt
    by (reply.Number truth) same = tt
    by reply.Null same = tt

-- to read changes nothing
reads_same : (a b : Core) (who id : ℕ) (answer : Answer) → Joins a (Read_kept who id) answer b → b ≡ a
reads_same a b who id answer (speaks, inl made) = made.2
reads_same a b who id answer (speaks, inr made) = by (held_ticket who id a) made where
  by : (ticket : Option Held) → reading_of ticket a ≡ (answer, b) → b ≡ a
  by None e = sym (ap (λ (x : Answer × Core). x.1) e)
  by (Some ticket) e = sym (ap (λ (x : Answer × Core). x.1) e)

untouched_read : (mark : Mark) (session : Session) (a b : Core) (pause : Pause) (more : VersionedDefinition → Program Pause)
    → ((standing : VersionedDefinition) → Runs Joins a (more standing) pause b → IsUntouched session a pause b)
    → (answer : Answer) → Runs Joins a (playing.read_answered mark session more answer) pause b → IsUntouched session a pause b
untouched_read mark session a b pause more made (Reads version definition) run = made (record { version = version; definition = definition }) run
untouched_read mark session a b pause more made answer run =
    run_late session (closing (ending_of_refusal (refusal_answered answer)) mark session) a b a pause
    (late_closing (ending_of_refusal (refusal_answered answer)) mark session (late_refusal (refusal_answered answer))) run

untouched_play : (asked : Row Reply) (mark : Mark) (session : Session) (a b : Core) (pause : Pause) → IsTidy session → ChecksFirst IsLate IsLate asked
    → Runs Joins a (play asked mark session) pause b → IsUntouched session a pause b
untouched_play (row.Give answer) mark session a b pause tidy checks run = answered_untouched answer mark session a b pause tidy run
untouched_play (row.Fail number) mark session a b pause tidy checks run = answered_untouched (reply.Error number) mark session a b pause tidy run
untouched_play (row.Room rest) mark session a b pause tidy checks (inl run) =
    run_late session (closing Starves mark session) a b a pause (late_closing Starves mark session tt) run
untouched_play (row.Room rest) mark session a b pause tidy checks (inr run) = untouched_play rest mark session a b pause tidy checks run
untouched_play (row.Look rest) mark session a b pause tidy checks run =
    untouched_play (rest session.state) mark session a b pause tidy (checks session.state) run
untouched_play (row.Here rest) mark session a b pause tidy checks run =
    let now = current_mark session.context.kept in untouched_play (rest now) mark session a b pause tidy (checks now) run
untouched_play (row.Read id rest) mark session a b pause tidy checks (answer, mid, joins, run) =
    let more = λ (standing : VersionedDefinition). play (rest standing) mark session in
    subst (λ c. IsUntouched session c pause b) (reads_same a mid session.context.who id answer joins)
    (untouched_read mark session mid b pause more (λ standing there. untouched_play (rest standing) mark session mid b pause tidy (checks standing) there) answer run)
untouched_play asked mark session a b pause tidy checks run =
    run_late session (play asked mark session) a b a pause (late_play asked mark session checks) run

pub statements_untouched : (asked : Statement) (session : Session) (a b : Core) (pause : Pause) → IsTidy session
    → Runs Joins a (playing.starting asked session) pause b
    → IsUntouched session a pause b
statements_untouched asked session a b pause tidy run =
    untouched_play (row_of asked) (current_mark session.context.kept) session a b pause tidy (statements_check asked) run

pub early_nothing : EarlyErrorsChangeNothing
early_nothing asked session after a b number tidy early run = statements_untouched asked session a b (Ends (reply.Error number) after) tidy run early
