-- No statement leaves a pin behind that its session's context doesn't need: each call of the context leaves none, and all other calls leave what the session has.
use Rattle.std.proofs.Common.{◌≡◌, ℕ, false, List, Option, Some, None, IsSome, Ok, Err, inl, inr, refl, ap, ◌∙◌, subst, rules}
use Rattle.std.specs.Prelude.{is_some, map}
use Rattle.mdl_key.specs.declared.mode.Mode.{Mode}
use Rattle.mdl_key.specs.declared.mode.Duration.TheVariants.{Explicit}
use Rattle.mdl_key.specs.Keys.{KeyName}
use Rattle.mdl_defs.specs.declared.versioned_definition.VersionedDefinition.{VersionedDefinition}
use Rattle.mdl_calls.specs.declared.lock_space.LockSpace.{Ghosts}
use Rattle.mdl_calls.specs.MemberLaws.{LawsOf}
use Rattle.mdl_calls.specs.Words as call
use Rattle.mdl_calls.specs.Words.{Answer, Call, Changed, Has_wait, Key_is, Reads, Tables, Unpin, SessionLocks, caller, own_after, Each, Program, Runs, Give, Ask, Grow, ◌>>=◌}
use Rattle.mdl_calls.proofs.FaithfulLemmas.{each_reply}
use Rattle.mdl_context.specs.declared.kept.Kept.{Kept}
use Rattle.mdl_context.specs.declared.request.Acquire.{Acquire}
use Rattle.mdl_context.specs.declared.request.Acquire.TheVariants as acquire
use Rattle.mdl_context.specs.declared.request.Mark.{Mark}
use Rattle.mdl_context.specs.declared.request.Resume.{Resume}
use Rattle.mdl_context.specs.declared.request.Resume.TheVariants as resume
use Rattle.mdl_context.specs.declared.request.Tried.{Tried}
use Rattle.mdl_context.specs.declared.request.Tried.TheVariants as try_as
use Rattle.mdl_context.specs.Contexts.{Attends, ContextView, current_mark, last_ticket, waits_for_user_lock}
use Rattle.mdl_context.specs.Gains.{refusal_answered}
use Rattle.mdl_context.specs.Holdings.{kept_for}
use Rattle.mdl_context.specs.Releases.{releasing, releasing_tickets}
use Rattle.mdl_context.specs.Requests.{Outcome, acquiring, trying}
use Rattle.mdl_context.specs.Upgrades.{upgrading, downgrading}
use Rattle.mdl_context.specs.Waits.{giving_up_wait, resuming}
use Rattle.mdl_context.specs.Wishes.{Wish}
use Rattle.mdl_context.proofs.AttendLemmas.{attends-changed, attends-same, known-still}
use Rattle.mdl_context.proofs.JustLemmas.{needs-changed, stays-over}
use Rattle.mdl_context.proofs.LetGoLemmas.{tidy-same}
use Rattle.mdl_context.proofs.PinLemmas.{unpins}
use Rattle.mdl_syntax.specs.declared.statement.Statement.{Statement}
use Rattle.mdl_rows.specs.declared.ending.Ending.{Ending}
use Rattle.mdl_rows.specs.declared.ending.Ending.TheVariants.{Answers, Misses, Falls, Starves}
use Rattle.mdl_rows.specs.declared.reply.Reply.{Reply}
use Rattle.mdl_rows.specs.declared.reply.Reply.TheVariants as reply
use Rattle.mdl_rows.specs.Endings.{Pause, Ends, Begins_to_wait, Waits_on, Faults, closing, ending_of_error, ending_of_loss, ending_of_refusal, gone_at, letting_go, pause_after, state_after, without_half}
use Rattle.mdl_rows.specs.Keepings as keepings
use Rattle.mdl_rows.specs.MemoryLaws.{session_of_pause}
use Rattle.mdl_rows.specs.Playing as playing
use Rattle.mdl_rows.specs.Playing.{play, with_context}
use Rattle.mdl_rows.specs.Rows.{Row}
use Rattle.mdl_rows.specs.Rows as row
use Rattle.mdl_rows.specs.Sessions.{Left, Session}
use Rattle.mdl_rows.specs.States.{half_lock, without_read_lock}
use Rattle.mdl_rows.specs.Statements.{row_of}
use Rattle.mdl_rows.specs.StatementPins.{HasNoSparePin, IsReadyForMore, LeavesNoSparePin, StatementsLeaveNoPin}
use Rattle.mdl_rows.proofs.IdleCalls.{IsIdle, IsIdleOrWaits, idle-acquiring, idle-downgrading, idle-giving_up, idle-releasing, idle-trying, idle-upgrading}
use Rattle.mdl_rows.proofs.RequestRuns.{Stays, stays-acquiring, stays-trying}
use Rattle.mdl_rows.proofs.RunParts.{parted}
use Rattle.mdl_rows.proofs.TicketRuns.{stays-downgrading, stays-giving_up, stays-releasing, stays-upgrading}
use Rattle.mdl_rows.proofs.WaitRuns.{IsOver, stays-giving_up_wait, stays-resuming}

-- over a space, for the session of a number
module _ {S : Type 0} (members : Ghosts S) (laws : LawsOf members) (number : ℕ) where
  -- the context is this session's, attends to it, and the session pins only what the context needs
  pub record Holds (space : S) (context : ContextView) : Type 0 where
    pub who : context.who ≡ number
    pub clean : HasNoSparePin members space context

  -- how far a statement came, with such a context
  abbrev pub Rests : S → Pause → Type 0
  Rests b pause = Holds b (session_of_pause pause).context × IsReadyForMore pause

  -- each run of a program comes so far
  abbrev pub AllRest : S → Program Pause → Type 0
  AllRest a program = (b : S) (pause : Pause) → Runs members.joins a program pause b → Rests b pause

  -- ---- calls

  -- a call of a context that leaves no pin behind
  pub holds-after : (a b : S) (before after : ContextView) → Holds a before → Stays members a before b after → Holds b after
  holds-after a b before after holds stays = record {
    who = stays.who ∙ holds.who;
    clean = record { attends = stays.attends; just = stays.tidy.1 holds.clean.just };
  }

  -- a call that changes nothing that the session has
  holds-same : (a b : S) (call : Call) (answer : Answer) (context : ContextView) → Holds a context → unpins call ≡ false → members.joins a call answer b
      → members.own b context.who ≡ members.own a context.who → Holds b context
  holds-same a b call answer context holds stays step same =
      let attends = holds.clean.attends in
      holds-after a b context context holds (record {
        who = refl;
        attends = attends-same a b context attends (known-still members laws a b call answer context.who attends.speaks stays step)
            (laws.keeps a b call answer context.who attends.speaks step) same;
        tidy = tidy-same members laws a b context context (λ place owes. laws.no_new_debts a b call answer context.who place attends.speaks step owes) attends refl
            (λ tidy. tidy) refl (ap (λ (o : SessionLocks). o.pins) same);
      })

  -- the session's own
  pub holds-own : (a b : S) (call : Call) (answer : Answer) (context : ContextView) → Holds a context → caller call ≡ Some context.who → unpins call ≡ false
      → own_after call answer (members.own a context.who) ≡ members.own a context.who → members.joins a call answer b → Holds b context
  holds-own a b call answer context holds made stays nothing step =
      holds-same a b call answer context holds stays step (laws.changes a b call answer context.who made step ∙ nothing)

  -- or nobody's
  holds-nobodys : (a b : S) (call : Call) (answer : Answer) (context : ContextView) → Holds a context → caller call ≡ None → unpins call ≡ false
      → members.joins a call answer b → Holds b context
  holds-nobodys a b call answer context holds made stays step =
      holds-same a b call answer context holds stays step (laws.others a b call answer context.who holds.clean.attends.speaks (λ e. nobody call context.who made e) step)
    where
      nobody : (call : Call) (who : ℕ) → caller call ≡ None → caller call ≡ Some who → ⊥
      nobody call who none some = cc

  -- ---- programs

  -- a program that ends so
  rests-given : (a : S) (given : Pause) → Rests a given → AllRest a (Give given)
  rests-given a given rests b pause (same, here) = subst (λ s. Rests s pause) here (subst (Rests a) same rests)

  -- what a call of the context leads to
  after_call : {A : Type 0} (a : S) (context : ContextView) (call : Program (Outcome A)) (next : Outcome A → Program Pause) (P : Outcome A → Type 0) → Holds a context
      → ((mid : S) (outcome : Outcome A) → Runs members.joins a call outcome mid → Stays members a context mid outcome.1 × P outcome)
      → ((mid : S) (outcome : Outcome A) → Holds mid outcome.1 → P outcome → AllRest mid (next outcome)) → AllRest a (call >>= next)
  after_call {A} a context call next P holds made later b pause run =
      let parts = parted {A = Outcome A} {B = Pause} members.joins call next a b pause run in
      let so = made parts.1 parts.0 parts.2 in
      later parts.1 parts.0 (holds-after a parts.1 context parts.0.1 holds so.0) so.1 b pause parts.3

  -- memory is found or not
  either_way : (a : S) (refused found : Program Pause) → AllRest a refused → AllRest a found → AllRest a (Grow refused found)
  either_way a refused found one other b pause (inl run) = one b pause run
  either_way a refused found one other b pause (inr run) = other b pause run

  -- a call of the session that changes nothing that it has, and what its answer leads to
  rests_asked : (a : S) (context : ContextView) (call : Call) (next : Answer → Program Pause) → Holds a context → caller call ≡ Some context.who → unpins call ≡ false
      → ((answer : Answer) (own : SessionLocks) → own_after call answer own ≡ own) → ((mid : S) (answer : Answer) → Holds mid context → AllRest mid (next answer))
      → AllRest a (Ask call next)
  rests_asked a context call next holds made stays nothing later b pause (answer, mid, step, run) =
      later mid answer (holds-own a mid call answer context holds made stays (nothing answer (members.own a context.who)) step) b pause run

  -- ---- what a context is asked for

  module _ (a : S) (context : ContextView) (holds : Holds a context) (idle : context.wait ≡ None) where
    attends : Attends members a context
    attends = holds.clean.attends

    acquires : (wish : Wish) (mid : S) (outcome : Outcome Acquire) → Runs members.joins a (acquiring wish context) outcome mid
        → Stays members a context mid outcome.1 × IsIdleOrWaits outcome
    acquires wish mid outcome run = (
      stays-acquiring members laws wish a mid context attends idle outcome run,
      each_reply members.joins IsIdleOrWaits (acquiring wish context) a mid outcome (idle-acquiring wish context idle) run,
    )

    tries : (wish : Wish) (mid : S) (outcome : Outcome Tried) → Runs members.joins a (trying wish context) outcome mid
        → Stays members a context mid outcome.1 × IsIdle {A = Tried} outcome
    tries wish mid outcome run = (
      stays-trying members laws wish a mid context attends idle outcome run,
      each_reply members.joins (IsIdle {A = Tried}) (trying wish context) a mid outcome (idle-trying wish context idle) run,
    )

    upgrades : (id : ℕ) (mode : Mode) (mid : S) (outcome : Outcome Acquire) → Runs members.joins a (upgrading id mode context) outcome mid
        → Stays members a context mid outcome.1 × IsIdleOrWaits outcome
    upgrades id mode mid outcome run = (
      stays-upgrading members laws a context attends idle id mode mid outcome run,
      each_reply members.joins IsIdleOrWaits (upgrading id mode context) a mid outcome (idle-upgrading context idle id mode) run,
    )

    downgrades : (id : ℕ) (mode : Mode) (mid : S) (outcome : Outcome (Unit {0})) → Runs members.joins a (downgrading id mode context) outcome mid
        → Stays members a context mid outcome.1 × IsIdle {A = Unit {0}} outcome
    downgrades id mode mid outcome run = (
      stays-downgrading members laws a context attends idle id mode mid outcome run,
      each_reply members.joins (IsIdle {A = Unit {0}}) (downgrading id mode context) a mid outcome (idle-downgrading context idle id mode) run,
    )

    pub gives-up : (gone : List Kept) (mid : S) (outcome : Outcome (Unit {0})) → Runs members.joins a (releasing_tickets gone context) outcome mid
        → Stays members a context mid outcome.1 × IsIdle {A = Unit {0}} outcome
    gives-up gone mid outcome run = (
      stays-giving_up members laws a context attends idle gone mid outcome run,
      each_reply members.joins (IsIdle {A = Unit {0}}) (releasing_tickets gone context) a mid outcome (idle-giving_up context idle gone) run,
    )

    releases : (id : ℕ) (mid : S) (outcome : Outcome (Unit {0})) → Runs members.joins a (releasing id context) outcome mid
        → Stays members a context mid outcome.1 × IsIdle {A = Unit {0}} outcome
    releases id mid outcome run = (
      stays-releasing members laws a context attends idle id mid outcome run,
      each_reply members.joins (IsIdle {A = Unit {0}}) (releasing id context) a mid outcome (idle-releasing context idle id) run,
    )

    -- tickets are kept for another duration
    keeps_all : Holds a (record context { kept = map (kept_for Explicit) context.kept })
    keeps_all =
        let after : ContextView = record context { kept = map (kept_for Explicit) context.kept } in
        holds-after a a context after holds (record {
          who = refl;
          attends = attends-changed {members = members} (kept_for Explicit) (λ t. refl) a context after refl refl refl refl (ap is_some idle) attends;
          tidy = stays-over members a a context after (needs-changed (kept_for Explicit) (λ t. refl) context after refl refl refl refl) refl (λ place owes. owes);
        })

  -- ---- ends

  rests_ended : (ending : Ending) (session : Session) (a : S) → Holds a session.context → session.context.wait ≡ None → Rests a (pause_after ending session)
  rests_ended (Answers reply) session a holds idle = (holds, idle)
  rests_ended (Misses number) session a holds idle = (holds, idle)
  rests_ended Falls session a holds idle = (holds, idle)
  rests_ended Starves session a holds idle = (holds, idle)

  rests_letting_go : (ending : Ending) (mark : Mark) (session : Session) (a : S) → Holds a session.context → session.context.wait ≡ None → AllRest a (letting_go ending mark session)
  rests_letting_go ending mark session a holds idle =
      let gone = gone_at ending session.state.is_open mark session.context.kept in
      let after : Outcome (Unit {0}) → Session = λ outcome. record { context = outcome.1; state = state_after ending session.state; left = None } in
      after_call {A = Unit {0}} a session.context (releasing_tickets gone session.context) (λ outcome. Give (pause_after ending (after outcome))) (IsIdle {A = Unit {0}}) holds
      (gives-up a session.context holds idle gone)
      (λ mid outcome so none. rests-given mid (pause_after ending (after outcome)) (rests_ended ending (after outcome) mid so none))

  rests_closing : (ending : Ending) (mark : Mark) (session : Session) (a : S) → Holds a session.context → session.context.wait ≡ None → AllRest a (closing ending mark session)
  rests_closing ending mark session a holds idle = by (half_lock (state_after ending session.state)) where
    by : (half : Option ℕ) → AllRest a (without_half half ending mark (record session { left = None }))
    by None = rests_letting_go ending mark (record session { left = None }) a holds idle
    by (Some global) =
        let after : Outcome (Unit {0}) → Session = λ outcome. record { context = outcome.1; state = without_read_lock session.state; left = None } in
        after_call {A = Unit {0}} a session.context (releasing global session.context) (λ outcome. letting_go ending mark (after outcome)) (IsIdle {A = Unit {0}}) holds
        (releases a session.context holds idle global) (λ mid outcome so none. rests_letting_go ending mark (after outcome) mid so none)

  -- ---- locks

  rests_untold : (mark : Mark) (session : Session) (a : S) (outcome : Outcome Resume) → Holds a outcome.1 → outcome.1.wait ≡ None → AllRest a (playing.untold mark session outcome)
  rests_untold mark session a (Ok (resume.Acquired id), context) holds idle =
      after_call {A = Unit {0}} a context (releasing id context) (λ outcome. closing Starves mark (with_context session outcome.1)) (IsIdle {A = Unit {0}}) holds
      (releases a context holds idle id) (λ mid outcome so none. rests_closing Starves mark (with_context session outcome.1) mid so none)
  rests_untold mark session a (Ok resume.Waiting, context) holds idle = rests_closing Starves mark (with_context session context) a holds idle
  rests_untold mark session a (Ok (resume.Lost how), context) holds idle = rests_closing Starves mark (with_context session context) a holds idle
  rests_untold mark session a (Err error, context) holds idle = rests_closing Starves mark (with_context session context) a holds idle

  -- a wait that can't be told is given up
  rests_given_up : (mark : Mark) (waiting session : Session) (a : S) → Holds a waiting.context → AllRest a (giving_up_wait waiting.context >>= playing.untold mark session)
  rests_given_up mark waiting session a holds =
      after_call {A = Resume} a waiting.context (giving_up_wait waiting.context) (playing.untold mark session) (λ outcome. outcome.1.wait ≡ None) holds
      (λ mid outcome run. stays-giving_up_wait members laws a mid waiting.context holds.clean.attends outcome run) (rests_untold mark session)

  rests_waiting : (wish : Wish) (left : Left) (session : Session) (a : S) → Holds a session.context → AllRest a (playing.beginning_to_wait wish left session)
  rests_waiting wish left session a holds =
      either_way a (giving_up_wait session.context >>= playing.untold left.mark session) (Give (Begins_to_wait wish.key wish.mode (playing.with_left session left)))
      (rests_given_up left.mark session session a holds) (rests-given a (Begins_to_wait wish.key wish.mode (playing.with_left session left)) (holds, search rules))

  rests_acquired : (wish : Wish) (rest : ℕ → Row Reply) (mark : Mark) (session : Session) (more : ℕ → Session → Program Pause)
      → ((id : ℕ) (after : Session) (mid : S) → Holds mid after.context → after.context.wait ≡ None → AllRest mid (more id after)) → (mid : S) (outcome : Outcome Acquire)
      → Holds mid outcome.1 → IsIdleOrWaits outcome → AllRest mid (playing.acquired wish rest mark session more outcome)
  rests_acquired wish rest mark session more made mid (Ok (acquire.Acquired id), context) holds idle = made id (with_context session context) mid holds idle
  rests_acquired wish rest mark session more made mid (Ok (acquire.MustWait number), context) holds idle =
      rests_waiting wish (record { rest = rest; mark = mark }) (with_context session context) mid holds
  rests_acquired wish rest mark session more made mid (Err error, context) holds idle = rests_closing (ending_of_error error) mark (with_context session context) mid holds idle

  rests_tried : (mark : Mark) (session : Session) (more : Option ℕ → Session → Program Pause)
      → ((got : Option ℕ) (after : Session) (mid : S) → Holds mid after.context → after.context.wait ≡ None → AllRest mid (more got after)) → (mid : S) (outcome : Outcome Tried)
      → Holds mid outcome.1 → IsIdle {A = Tried} outcome → AllRest mid (playing.tried mark session more outcome)
  rests_tried mark session more made mid (Ok (try_as.Acquired id), context) holds idle = made (Some id) (with_context session context) mid holds idle
  rests_tried mark session more made mid (Ok try_as.WouldWait, context) holds idle = made None (with_context session context) mid holds idle
  rests_tried mark session more made mid (Err error, context) holds idle = rests_closing (ending_of_error error) mark (with_context session context) mid holds idle

  -- ---- what stands

  module _ (mark : Mark) (session : Session) (idle : session.context.wait ≡ None) where
    rests_read : (more : VersionedDefinition → Program Pause) (a : S) → Holds a session.context → ((standing : VersionedDefinition) → AllRest a (more standing))
        → (answer : Answer) → AllRest a (playing.read_answered mark session more answer)
    rests_read more a holds made (Reads version definition) = made (record { version = version; definition = definition })
    rests_read more a holds made answer = rests_closing (ending_of_refusal (refusal_answered answer)) mark session a holds idle

    rests_change : (more : Program Pause) (a : S) → Holds a session.context → AllRest a more → (answer : Answer) → AllRest a (playing.change_answered mark session more answer)
    rests_change more a holds made (Changed version) = made
    rests_change more a holds made answer = rests_closing (ending_of_refusal (refusal_answered answer)) mark session a holds idle

    rests_tables : (more : List ℕ → Program Pause) (a : S) → Holds a session.context → ((places : List ℕ) → AllRest a (more places))
        → (answer : Answer) → AllRest a (playing.tables_answered mark session more answer)
    rests_tables more a holds made (Tables places) = made places
    rests_tables more a holds made answer = rests_closing (ending_of_refusal (refusal_answered answer)) mark session a holds idle

    rests_key : (more : KeyName → Program Pause) (a : S) → Holds a session.context → ((key : KeyName) → AllRest a (more key))
        → (answer : Answer) → AllRest a (playing.key_answered mark session more answer)
    rests_key more a holds made (Key_is key) = made key
    rests_key more a holds made answer = rests_closing (ending_of_refusal (refusal_answered answer)) mark session a holds idle

  -- ---- kills

  holds_told : (context : ContextView) (target : ℕ) (a b : S) (answer : Answer) (x : Unit {0}) → Holds a context
      → Runs members.joins a (playing.wait_told target answer) x b → Holds b context
  holds_told context target a b (Has_wait (Some wait)) x holds (answer, mid, step, (same, here)) =
      subst (λ s. Holds s context) here (holds-nobodys a mid (call.Kill target wait) answer context holds refl refl step)
  holds_told context target a b (Has_wait None) x holds run = subst (λ s. Holds s context) run.1 holds
  holds_told context target a b answer x holds run = subst (λ s. Holds s context) run.1 holds

  rests_killing : (target : ℕ) (context : ContextView) (more : Program Pause) (a : S) → Holds a context → ((mid : S) → Holds mid context → AllRest mid more)
      → AllRest a (playing.killing target >>= (λ _. more))
  rests_killing target context more a holds later b pause run =
      let parts = parted {A = Unit {0}} {B = Pause} members.joins (playing.killing target) (λ _. more) a b pause run in
      later parts.1 (told parts.0 parts.1 parts.2) b pause parts.3
    where
      told : (x : Unit {0}) (mid : S) → Runs members.joins a (playing.killing target) x mid → Holds mid context
      told x mid (answer, next, step, more_calls) =
          holds_told context target next mid answer x (holds-nobodys a next (call.Wait_of target) answer context holds refl refl step) more_calls

  -- ---- all that may be asked for

  rests_play : (asked : Row Reply) (mark : Mark) (session : Session) (a : S) → Holds a session.context → session.context.wait ≡ None → AllRest a (play asked mark session)
  rests_play (row.Give reply) mark session a holds idle = rests_closing (Answers reply) mark session a holds idle
  rests_play (row.Fail error) mark session a holds idle = rests_closing (Answers (reply.Error error)) mark session a holds idle
  rests_play (row.Room rest) mark session a holds idle =
      either_way a (closing Starves mark session) (play rest mark session) (rests_closing Starves mark session a holds idle) (rests_play rest mark session a holds idle)
  rests_play (row.Look rest) mark session a holds idle = rests_play (rest session.state) mark session a holds idle
  rests_play (row.Set change rest) mark session a holds idle = rests_play rest mark (record session { state = change session.state }) a holds idle
  rests_play (row.Here rest) mark session a holds idle = rests_play (rest (current_mark session.context.kept)) mark session a holds idle
  rests_play (row.Acquire wish rest) mark session a holds idle =
      let more = λ (id : ℕ) (after : Session). play (rest id) mark after in
      after_call {A = Acquire} a session.context (acquiring wish session.context) (playing.acquired wish rest mark session more) IsIdleOrWaits holds
      (acquires a session.context holds idle wish) (rests_acquired wish rest mark session more (λ id after mid so none. rests_play (rest id) mark after mid so none))
  rests_play (row.Try_acquire wish rest) mark session a holds idle =
      let more = λ (got : Option ℕ) (after : Session). play (rest got) mark after in
      after_call {A = Tried} a session.context (trying wish session.context) (playing.tried mark session more) (IsIdle {A = Tried}) holds
      (tries a session.context holds idle wish) (rests_tried mark session more (λ got after mid so none. rests_play (rest got) mark after mid so none))
  rests_play (row.Last key rest) mark session a holds idle = rests_play (rest (last_ticket key session.context)) mark session a holds idle
  rests_play (row.Upgrade id key mode rest) mark session a holds idle =
      let wish = playing.upgrade_wish key mode in
      let more = λ (id : ℕ) (after : Session). play (rest id) mark after in
      after_call {A = Acquire} a session.context (upgrading id mode session.context) (playing.acquired wish rest mark session more) IsIdleOrWaits holds
      (upgrades a session.context holds idle id mode) (rests_acquired wish rest mark session more (λ id after mid so none. rests_play (rest id) mark after mid so none))
  rests_play (row.Downgrade id mode rest) mark session a holds idle =
      after_call {A = Unit {0}} a session.context (downgrading id mode session.context) (λ outcome. play rest mark (with_context session outcome.1)) (IsIdle {A = Unit {0}}) holds
      (downgrades a session.context holds idle id mode) (λ mid outcome so none. rests_play rest mark (with_context session outcome.1) mid so none)
  rests_play (row.Give_up which rest) mark session a holds idle =
      after_call {A = Unit {0}} a session.context (releasing_tickets (which session.context.kept) session.context) (λ outcome. play rest mark (with_context session outcome.1))
      (IsIdle {A = Unit {0}}) holds (gives-up a session.context holds idle (which session.context.kept))
      (λ mid outcome so none. rests_play rest mark (with_context session outcome.1) mid so none)
  rests_play (row.Release id rest) mark session a holds idle =
      after_call {A = Unit {0}} a session.context (releasing id session.context) (λ outcome. play rest mark (with_context session outcome.1)) (IsIdle {A = Unit {0}}) holds
      (releases a session.context holds idle id) (λ mid outcome so none. rests_play rest mark (with_context session outcome.1) mid so none)
  rests_play (row.Keep rest) mark session a holds idle =
      rests_play rest mark (playing.all_kept session) a (keeps_all a session.context holds idle) idle
  rests_play (row.Read id rest) mark session a holds idle =
      let more = λ (standing : VersionedDefinition). play (rest standing) mark session in
      rests_asked a session.context (call.Read_kept session.context.who id) (playing.read_answered mark session more) holds refl refl (λ answer own. refl)
      (λ mid answer so. rests_read mark session idle more mid so (λ standing. rests_play (rest standing) mark session mid so idle) answer)
  rests_play (row.Redefine id change rest) mark session a holds idle =
      rests_asked a session.context (call.Change_definition session.context.who id change) (playing.change_answered mark session (play rest mark session)) holds refl refl (λ answer own. refl)
      (λ mid answer so. rests_change mark session idle (play rest mark session) mid so (rests_play rest mark session mid so idle) answer)
  rests_play (row.Tables_of schema rest) mark session a holds idle =
      let more = λ (places : List ℕ). play (rest places) mark session in
      rests_asked a session.context (call.Tables_of session.context.who schema) (playing.tables_answered mark session more) holds refl refl (λ answer own. refl)
      (λ mid answer so. rests_tables mark session idle more mid so (λ places. rests_play (rest places) mark session mid so idle) answer)
  rests_play (row.Key_of place rest) mark session a holds idle =
      let more = λ (key : KeyName). play (rest key) mark session in
      rests_asked a session.context (call.Key_of session.context.who place) (playing.key_answered mark session more) holds refl refl (λ answer own. refl)
      (λ mid answer so. rests_key mark session idle more mid so (λ key. rests_play (rest key) mark session mid so idle) answer)
  rests_play (row.Kill target rest) mark session a holds idle =
      rests_killing target session.context (play rest mark session) a holds (λ mid so. rests_play rest mark session mid so idle)

  pub rests_starting : (statement : Statement) (session : Session) (a : S) → Holds a session.context → session.context.wait ≡ None → AllRest a (playing.starting statement session)
  rests_starting statement session a holds idle = rests_play (row_of statement) (current_mark session.context.kept) session a holds idle

  -- ---- what is left of a statement

  rests_resumed : (left : Left) (session : Session) (mid : S) (outcome : Outcome Resume) → Holds mid outcome.1 → IsOver outcome → AllRest mid (playing.resumed left session outcome)
  rests_resumed left session mid (Ok resume.Waiting, context) holds over =
      rests-given mid (Waits_on (playing.with_left (with_context session context) left)) (holds, search rules)
  rests_resumed left session mid (Ok (resume.Acquired id), context) holds idle = rests_play (left.rest id) left.mark (with_context session context) mid holds idle
  rests_resumed left session mid (Ok (resume.Lost how), context) holds idle =
      rests_closing (ending_of_loss (waits_for_user_lock session.context) how) left.mark (with_context session context) mid holds idle
  rests_resumed left session mid (Err error, context) holds idle = rests_closing (ending_of_error error) left.mark (with_context session context) mid holds idle

  rests_going_on_with : (left : Option Left) (session : Session) (a : S) → IsSome left → Holds a session.context → AllRest a (playing.going_on_with left (record session { left = None }))
  rests_going_on_with None session a some holds = cc
  rests_going_on_with (Some left) session a some holds =
      let resting : Session = record session { left = None } in
      after_call {A = Resume} a session.context (resuming session.context) (playing.resumed left resting) IsOver holds
      (λ mid outcome run. stays-resuming members laws a mid session.context holds.clean.attends outcome run) (rests_resumed left resting)

  pub rests_going_on : (session : Session) (a : S) → IsSome session.left → Holds a session.context → AllRest a (playing.going_on session)
  rests_going_on session a some holds = rests_going_on_with session.left session a some holds

  -- ---- what is left is copied

  rests_keeping_left : (left : Option Left) (key : KeyName) (mode : Mode) (session : Session) (a : S) → Rests a (Begins_to_wait key mode session)
      → AllRest a (keepings.keeping_left left key mode session)
  rests_keeping_left None key mode session a rests = rests-given a (Begins_to_wait key mode session) rests
  rests_keeping_left (Some left) key mode session a rests =
      let resting : Session = record session { left = None } in
      either_way a (giving_up_wait session.context >>= playing.untold left.mark resting) (Give (Begins_to_wait key mode session))
      (rests_given_up left.mark session resting a rests.0) (rests-given a (Begins_to_wait key mode session) rests)

  rests_keeping : (pause : Pause) (a : S) → Rests a pause → AllRest a (keepings.keeping pause)
  rests_keeping (Ends reply session) a rests = rests-given a (Ends reply session) rests
  rests_keeping (Begins_to_wait key mode session) a rests = rests_keeping_left session.left key mode session a rests
  rests_keeping (Waits_on session) a rests = rests-given a (Waits_on session) rests
  rests_keeping (Faults session) a rests = rests-given a (Faults session) rests

  rests_kept : (program : Program Pause) (a : S) → AllRest a program → AllRest a (program >>= keepings.keeping)
  rests_kept program a rests b pause run =
      let parts = parted {A = Pause} {B = Pause} members.joins program keepings.keeping a b pause run in
      rests_keeping parts.0 parts.1 (rests parts.1 parts.0 parts.2) b pause parts.3

-- ---- the law

module _ {S : Type 0} (members : Ghosts S) (laws : LawsOf members) (session : Session) where
  abbrev number : ℕ
  number = session.context.who

  -- a program that so rests leaves no pin behind
  cleanly : (program : Program Pause) → ((a : S) → Holds members laws number a session.context → AllRest members laws number a program) → LeavesNoSparePin members session program
  cleanly program rests a b pause clean run =
      let end = rests a (record { who = refl; clean = clean }) b pause run in
      (end.0.clean, end.1)

  -- also where what is left of it is copied
  both : (program : Program Pause) → ((a : S) → Holds members laws number a session.context → AllRest members laws number a program)
      → LeavesNoSparePin members session program × LeavesNoSparePin members session (program >>= keepings.keeping)
  both program rests = (cleanly program rests, cleanly (program >>= keepings.keeping) (λ a holds. rests_kept members laws number program a (rests a holds)))

pub leave-no-pin : {S : Type 0} (members : Ghosts S) (laws : LawsOf members) → StatementsLeaveNoPin members
leave-no-pin members laws session = (
  λ idle. (
    λ asked mark. both members laws session (play asked mark session) (λ a holds. rests_play members laws session.context.who asked mark session a holds idle),
    λ statement. both members laws session (playing.starting statement session) (λ a holds. rests_starting members laws session.context.who statement session a holds idle),
  ),
  λ some. both members laws session (playing.going_on session) (λ a holds. rests_going_on members laws session.context.who session a some holds),
)
