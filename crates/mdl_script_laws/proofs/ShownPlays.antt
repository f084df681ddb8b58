-- Whatever a statement asks for and is answered, what was shown in its transaction before stands on.
use Rattle.std.proofs.Common.{◌≡◌, inl, inr, ℕ, Bool, true, List, [], ◌++◌, Option, Some, None, Ok, Err, Contains, filter, refl, sym, ap, ◌∙◌, subst}
use Rattle.std.specs.Prelude.{◌==◌}
use Rattle.mdl_key.specs.declared.mode.Duration.TheVariants.{Transaction}
use Rattle.mdl_key.specs.Keys.{KeyName}
use Rattle.mdl_defs.specs.declared.change.Change.{Change}
use Rattle.mdl_defs.specs.declared.definition.Definition.{Definition}
use Rattle.mdl_defs.specs.declared.versioned_definition.VersionedDefinition.{VersionedDefinition}
use Rattle.mdl_system.proofs.MemberLemmas.{Contains-map_from}
use Rattle.mdl_calls.specs.declared.answers.Held.{Held}
use Rattle.mdl_calls.specs.Words.{Answer, Has_wait, Reads, Changed, Change_definition, Kill, Read_kept, Wait_of, SessionLocks, Program, ◌>>=◌, Tables, Key_is, Tables_of, Key_of}
use Rattle.mdl_core.specs.CoreJoins.{Joins, Knows, SpeaksFor, locks_at}
use Rattle.mdl_core.specs.Cores.{Core, standing_at}
use Rattle.mdl_core.proofs.CallLaws.{core-changes, core-keeps, core-remembers, core-rising}
use Rattle.mdl_core.proofs.CoreSound.{calls_keep-sound}
use Rattle.mdl_core.proofs.ReadLaws.{core-reads}
use Rattle.mdl_context.specs.declared.request.Acquire.{Acquire}
use Rattle.mdl_context.specs.declared.request.Acquire.TheVariants as acquire
use Rattle.mdl_context.specs.declared.request.Mark.{Mark}
use Rattle.mdl_context.specs.declared.request.Resume.{Resume}
use Rattle.mdl_context.specs.declared.request.Resume.TheVariants as resume
use Rattle.mdl_context.specs.declared.request.Tried.{Tried}
use Rattle.mdl_context.specs.declared.request.Tried.TheVariants as try_as
use Rattle.mdl_context.specs.Contexts.{ContextView, current_mark, duration_rank, last_ticket, lasts, waits_for_user_lock}
use Rattle.mdl_context.specs.Gains.{refusal_answered}
use Rattle.mdl_context.specs.Holdings.{awaited_upgrade, wanted_of}
use Rattle.mdl_context.specs.Releases.{releasing, releasing_tickets}
use Rattle.mdl_context.specs.Requests.{Outcome, acquiring, trying}
use Rattle.mdl_context.specs.Upgrades.{upgrading, downgrading}
use Rattle.mdl_context.specs.Waits.{resuming}
use Rattle.mdl_context.specs.WishLaws.{IsMet}
use Rattle.mdl_context.specs.Wishes.{Wish}
use Rattle.mdl_context.proofs.PlaceLemmas.{equal}
use Rattle.mdl_context.proofs.WishLemmas.{met_acquiring}
use Rattle.mdl_rows.specs.declared.ending.Ending.TheVariants.{Answers}
use Rattle.mdl_rows.specs.declared.reply.Reply.{Reply}
use Rattle.mdl_rows.specs.declared.reply.Reply.TheVariants as reply
use Rattle.mdl_rows.specs.declared.reply.TableShown.{TableShown}
use Rattle.mdl_rows.specs.Endings.{Pause, ending_of_error, ending_of_loss, ending_of_refusal}
use Rattle.mdl_rows.specs.Playing as playing
use Rattle.mdl_rows.specs.Playing.{play, with_context}
use Rattle.mdl_rows.specs.Rows.{Row}
use Rattle.mdl_rows.specs.Rows as row
use Rattle.mdl_rows.specs.Sessions.{Left, Session}
use Rattle.mdl_rows.specs.States.{State}
use Rattle.mdl_rows.specs.Statements.{is_defined}
use Rattle.mdl_script_laws.proofs.ListLemmas.{among-filter}
use Rattle.mdl_script_laws.proofs.ShownCalls.{Leads, leads-bind, leads-each, none, stays-call, stays-other}
use Rattle.mdl_script_laws.proofs.ShownContexts.{Fits, Followed, fits-kept, fits-known, followed-spared}
use Rattle.mdl_script_laws.proofs.ShownAsking.{held-number, leads-acquiring, leads-trying}
use Rattle.mdl_script_laws.proofs.ShownRaising.{Raised, Won, leads-downgrading, leads-upgrading, leads-winning}
use Rattle.mdl_script_laws.proofs.ShownWaits.{GaveUp, Resumed, leads-giving_up, leads-releasing, leads-resuming}
use Rattle.mdl_script_laws.proofs.ShownPoints.{IsLocked, IsStanding, lasts-longer, shown_as}
use Rattle.mdl_script_laws.proofs.ShownStages.{Comes, IsFair, IsRaising, IsWaiting, Keeps, Point, point-cleared, point-followed, point-locked, point-same, point-seen, point-set, seen-defined, seen_under, with_lock}
use Rattle.mdl_script_laws.proofs.ShownEndings.{leads-closing, tells_no_error, tells_no_loss, tells_no_refusal}

-- ---- changes

fits-changed : (a b : Core) (context : ContextView) (id : ℕ) (change : Change) (answer : Answer) → Fits a context
    → Joins a (Change_definition context.who id change) answer b
    → Fits b context
fits-changed a b context id change answer fits joins =
    let same = core-changes a b (Change_definition context.who id change) answer context.who refl joins in
    record {
      speaks = core-keeps calls_keep-sound a b (Change_definition context.who id change) answer context.who fits.speaks joins;
      backed = λ k among. (let h = fits.backed k among in (h.0, subst (λ (o : SessionLocks). Contains o.held h.0) (sym same) h.1, h.2, h.3));
      alone = fits.alone;
      known = λ key place e. core-remembers a b (Change_definition context.who id change) answer context.who place key fits.speaks (λ f done. cc) joins
          (fits.known key place e);
      wait = λ wanted w e f. fits.wait wanted w e (subst (λ (o : SessionLocks). o.wait ≡ Some w) same f);
    }

-- ---- locks

-- a lock was asked for: it is had
met-lock : (wish : Wish) (a : Core) (before : ContextView) (b : Core) (after : ContextView) (id : ℕ) → Followed a before b after
    → IsMet wish before (Ok (acquire.Acquired id), after) → wish.duration ≡ Transaction → IsLocked b after id wish.key
met-lock wish a before b after id followed met lasting =
    let ticket = met.1 in
    let there = followed.fits.backed ticket met.3 in
    record {
      ticket = there.0;
      there = there.1;
      number = there.2 ∙ met.4;
      at = subst (λ p. Knows b after.who p wish.key) (sym (there.3 ∙ met.5.0)) (fits-known b after wish.key met.0 followed.fits met.2);
      firm = λ k among e. (
          let long = subst (λ d. (duration_rank d == duration_rank Transaction) ≡ true) (followed.fits.alone ticket k met.3 among (sym there.2 ∙ sym e))
          (subst (λ d. lasts d ticket ≡ true) lasting met.5.2) in
          lasts-longer k long);
    }

module _ (old : TableShown → Type 0) (live : Bool) (locks : List (ℕ × KeyName)) (seen : List TableShown) (mark : Mark) where
  abbrev At : Core → ContextView → State → Type 0
  At a context state = Point old live locks seen mark a context state

  leads-acquired : (wish : Wish) (rest : ℕ → Row Reply) (more : ℕ → Session → Program Pause) (a b : Core) (session : Session) (outcome : Outcome Acquire)
      → ((id : ℕ) → IsFair old live (with_lock wish.duration id wish.key locks) seen (rest id))
      → ((id : ℕ) (c : Core) (after : Session) → Point old live (with_lock wish.duration id wish.key locks) seen mark c after.context after.state
      → Leads (Comes old) (more id after) c)
      → At a session.context session.state → Followed a session.context b outcome.1 → IsMet wish session.context outcome
      → Leads (Comes old) (playing.acquired wish rest mark session more outcome) b
  leads-acquired wish rest more a b session (Ok (acquire.Acquired id), context) fair later point followed met =
      let now = point-followed old live locks seen mark a session.context session.state point b context followed in
      later id b (with_context session context) (point-locked old live locks seen mark b context session.state now wish.duration id wish.key
      (met-lock wish a session.context b context id followed met))
  leads-acquired wish rest more a b session (Ok (acquire.MustWait number), context) fair later point followed met =
      let now = point-followed old live locks seen mark a session.context session.state point b context followed in
      inl (record {
        rest = record { rest = rest; mark = mark };
        left = refl;
        live = live;
        locks = locks;
        seen = seen;
        key = wish.key;
        wanted = wanted_of met.0 wish met.1;
        wait = met.3;
        gains = refl;
        at = fits-known b context wish.key met.0 followed.fits met.2;
        point = now;
        fair = fair;
      })
  leads-acquired wish rest more a b session (Err error, context) fair later point followed met =
      leads-closing old live locks seen mark b (with_context session context)
      (point-followed old live locks seen mark a session.context session.state point b context followed) (ending_of_error error)
      (λ lives x tell. absurd (tells_no_error error x tell))

  -- a lock was tried: it is had, or can't be had at once
  leads-tried : (more : Option ℕ → Session → Program Pause) (a b : Core) (session : Session) (outcome : Outcome Tried)
      → ((got : Option ℕ) (c : Core) (after : Session) → At c after.context after.state → Leads (Comes old) (more got after) c)
      → At a session.context session.state → Followed a session.context b outcome.1
      → Leads (Comes old) (playing.tried mark session more outcome) b
  leads-tried more a b session (Ok (try_as.Acquired id), context) later point followed =
      later (Some id) b (with_context session context) (point-followed old live locks seen mark a session.context session.state point b context followed)
  leads-tried more a b session (Ok try_as.WouldWait, context) later point followed =
      later None b (with_context session context) (point-followed old live locks seen mark a session.context session.state point b context followed)
  leads-tried more a b session (Err error, context) later point followed =
      leads-closing old live locks seen mark b (with_context session context)
      (point-followed old live locks seen mark a session.context session.state point b context followed) (ending_of_error error)
      (λ lives x tell. absurd (tells_no_error error x tell))

  -- a lock was to be made stronger
  leads-raised : (wish : Wish) (rest : ℕ → Row Reply) (more : ℕ → Session → Program Pause) (a b : Core) (session : Session) (outcome : Outcome Acquire)
      → ((x : TableShown) → old x → live ≡ true → ⊥) → ((id : ℕ) → IsFair old live [] [] (rest id))
      → ((id : ℕ) (c : Core) (after : Session) → Point old live [] [] mark c after.context after.state → Leads (Comes old) (more id after) c)
      → At a session.context session.state → Raised session.context outcome b
      → Leads (Comes old) (playing.acquired wish rest mark session more outcome) b
  leads-raised wish rest more a b session (Ok (acquire.Acquired id), context) nothing fair later point raised =
      later id b (with_context session context) (point-cleared old live locks seen mark a session.context session.state point b context raised.0 nothing)
  leads-raised wish rest more a b session (Ok (acquire.MustWait number), context) nothing fair later point raised = inr (record {
    rest = record { rest = rest; mark = mark };
    left = refl;
    live = live;
    nothing = nothing;
    upgrading = raised.2;
    point = point-cleared old live locks seen mark a session.context session.state point b context raised.0 nothing;
    fair = fair;
  })
  leads-raised wish rest more a b session (Err error, context) nothing fair later point raised =
      leads-closing old live [] [] mark b (with_context session context)
      (point-cleared old live locks seen mark a session.context session.state point b context raised.0 nothing) (ending_of_error error)
      (λ lives x tell. absurd (tells_no_error error x tell))

  -- what stands was asked for
  seen-read : (a b : Core) (context : ContextView) (state : State) (id version : ℕ) (definition : Option Definition) → At a context state
      → Joins a (Read_kept context.who id) (Reads version definition) b → At b context state
      → (x : TableShown) → Contains (seen_under id (record { version = version; definition = definition }) locks) x → IsStanding b context x
  seen-read a b context state id version definition point joins now x among =
      let is = seen-defined id (record { version = version; definition = definition }) locks x among in
      let from = Contains-map_from (λ (lock : ℕ × KeyName). shown_as lock.1 (record { version = version; definition = definition }))
      (filter (λ (lock : ℕ × KeyName). lock.0 == id) locks) x is.1 in
      let lock = among-filter (λ (lock : ℕ × KeyName). lock.0 == id) locks from.0 from.1 in
      let before = point.locked from.0.0 from.0.1 lock.0 in
      let number : before.ticket.id ≡ id = before.number ∙ equal from.0.0 id lock.1 in
      let held = held-number (locks_at a context.who) before.ticket id (core-rising a context.who point.fits.speaks) before.there number in
      let read = core-reads a b (Read_kept context.who id) context.who id version definition before.ticket refl refl held joins in
      let key = core-remembers a b (Read_kept context.who id) (Reads version definition) context.who before.ticket.place from.0.1
      point.fits.speaks (λ e done. cc) joins before.at in
      record {
        ticket = before.ticket;
        there = read-there a b context.who id version definition before.ticket point.fits.speaks joins before.there;
        shown = ap (λ k. shown_as k (standing_at before.ticket.place b)) key.1 ∙ ap (shown_as from.0.1) read.2 ∙ sym from.2;
        defined = ap is_defined read.2 ∙ is.0;
        firm = before.firm;
      }
    where
      read-there : (a b : Core) (who id version : ℕ) (definition : Option Definition) (t : Held) → SpeaksFor a who
          → Joins a (Read_kept who id) (Reads version definition) b
          → Contains (locks_at a who).held t → Contains (locks_at b who).held t
      read-there a b who id version definition t speaks joins among =
          subst (λ (o : SessionLocks). Contains o.held t) (sym (core-changes a b (Read_kept who id) (Reads version definition) who refl joins)) among

  leads-read : (id : ℕ) (more : VersionedDefinition → Program Pause) (a b : Core) (session : Session) (answer : Answer) → At a session.context session.state
      → Joins a (Read_kept session.context.who id) answer b
      → ((standing : VersionedDefinition) → Point old live locks (seen_under id standing locks ++ seen) mark b session.context session.state
      → Leads (Comes old) (more standing) b)
      → Leads (Comes old) (playing.read_answered mark session more answer) b
  leads-read id more a b session (Reads version definition) point joins later =
      let now = point-same old live locks seen mark a session.context session.state point b
      (stays-call session.context.who none a b (Read_kept session.context.who id) (Reads version definition) point.fits.speaks (refl, tt, refl) joins) in
      later (record { version = version; definition = definition })
      (point-seen old live locks seen mark b session.context session.state now (seen_under id (record { version = version; definition = definition }) locks)
      (seen-read a b session.context session.state id version definition point joins now))
  leads-read id more a b session answer point joins later =
      leads-closing old live locks seen mark b session
      (point-same old live locks seen mark a session.context session.state point b
      (stays-call session.context.who none a b (Read_kept session.context.who id) answer point.fits.speaks (refl, tt, refl) joins))
      (ending_of_refusal (refusal_answered answer)) (λ lives x tell. absurd (tells_no_refusal (refusal_answered answer) x tell))

  -- a change of it
  leads-change : (id : ℕ) (change : Change) (more : Program Pause) (a b : Core) (session : Session) (answer : Answer) → At a session.context session.state
      → ((x : TableShown) → old x → live ≡ true → ⊥) → Joins a (Change_definition session.context.who id change) answer b
      → (Point old live [] [] mark b session.context session.state → Leads (Comes old) more b)
      → Leads (Comes old) (playing.change_answered mark session more answer) b
  leads-change id change more a b session answer point nothing joins later = by answer
    where
      who : ℕ
      who = session.context.who

      now : Point old live [] [] mark b session.context session.state
      now = point-cleared old live locks seen mark a session.context session.state point b session.context
          (fits-changed a b session.context id change answer point.fits joins) nothing

      by : (r : Answer) → Leads (Comes old) (playing.change_answered mark session more r) b
      by (Changed version) = later now
      by r = leads-closing old live [] [] mark b session now (ending_of_refusal (refusal_answered r)) (λ lives x tell. absurd (tells_no_refusal (refusal_answered r) x tell))

  -- the tables of a schema, and the key of a place
  leads-tables : (schema : List ℕ) (more : List ℕ → Program Pause) (a b : Core) (session : Session) (answer : Answer) → At a session.context session.state
      → Joins a (Tables_of session.context.who schema) answer b
      → ((tables : List ℕ) → Point old live locks seen mark b session.context session.state → Leads (Comes old) (more tables) b)
      → Leads (Comes old) (playing.tables_answered mark session more answer) b
  leads-tables schema more a b session answer point joins later = by answer
    where
      now : Point old live locks seen mark b session.context session.state
      now = point-same old live locks seen mark a session.context session.state point b
          (stays-call session.context.who none a b (Tables_of session.context.who schema) answer point.fits.speaks (refl, tt, refl) joins)

      by : (r : Answer) → Leads (Comes old) (playing.tables_answered mark session more r) b
      by (Tables tables) = later tables now
      by r = leads-closing old live locks seen mark b session now (ending_of_refusal (refusal_answered r)) (λ lives x tell. absurd (tells_no_refusal (refusal_answered r) x tell))

  leads-key : (place : ℕ) (more : KeyName → Program Pause) (a b : Core) (session : Session) (answer : Answer) → At a session.context session.state
      → Joins a (Key_of session.context.who place) answer b
      → ((key : KeyName) → Point old live locks seen mark b session.context session.state → Leads (Comes old) (more key) b)
      → Leads (Comes old) (playing.key_answered mark session more answer) b
  leads-key place more a b session answer point joins later = by answer
    where
      now : Point old live locks seen mark b session.context session.state
      now = point-same old live locks seen mark a session.context session.state point b
          (stays-call session.context.who none a b (Key_of session.context.who place) answer point.fits.speaks (refl, tt, refl) joins)

      by : (r : Answer) → Leads (Comes old) (playing.key_answered mark session more r) b
      by (Key_is key) = later key now
      by r = leads-closing old live locks seen mark b session now (ending_of_refusal (refusal_answered r)) (λ lives x tell. absurd (tells_no_refusal (refusal_answered r) x tell))

  -- a wait that another session has is killed
  leads-told : (target : ℕ) (more : Program Pause) (a b : Core) (session : Session) (answer : Answer) → At b session.context session.state
      → ((c : Core) → At c session.context session.state → Leads (Comes old) more c)
      → Leads (Comes old) (playing.wait_told target answer >>= (λ _. more)) b
  leads-told target more a b session (Has_wait (Some number)) point later = λ answer c joins.
      later c (point-same old live locks seen mark b session.context session.state point c
      (stays-other session.context.who b c (Kill target number) answer point.fits.speaks (λ e. cc) joins))
  leads-told target more a b session answer point later = later b point

-- ---- all that may be asked for

-- what is asked for once the session was looked at
abbrev pub begun : Row Reply → State → Row Reply
begun (row.Look rest) state = rest state
begun asked state = asked

pub leads-play : (old : TableShown → Type 0) (live : Bool) (locks : List (ℕ × KeyName)) (seen : List TableShown) (asked : Row Reply) (mark : Mark)
    (a : Core) (session : Session)
    → IsFair old live locks seen asked → Point old live locks seen mark a session.context session.state → Leads (Comes old) (play asked mark session) a
leads-play old live locks seen (row.Give reply) mark a session fair point = leads-closing old live locks seen mark a session point (Answers reply) fair
leads-play old live locks seen (row.Fail number) mark a session fair point =
    leads-closing old live locks seen mark a session point (Answers (reply.Error number)) (λ lives x tell. absurd tell)
leads-play old live locks seen (row.Room rest) mark a session fair point = leads-play old live locks seen rest mark a session fair point
leads-play old live locks seen (row.Look rest) mark a session fair point =
    leads-play old live locks seen (rest session.state) mark a session (fair session.state point.unlocked point.opens) point
leads-play old live locks seen (row.Set change rest) mark a session fair point =
    leads-play old live locks seen rest mark a (record session { state = change session.state }) fair.3
    (point-set old live locks seen mark a session.context session.state point change (fair.0 session.state) (fair.1 session.state)
    (λ x is lives. fair.2 x is lives session.state))
leads-play old live locks seen (row.Here rest) mark a session fair point =
    leads-play old live locks seen (rest (current_mark session.context.kept)) mark a session (fair (current_mark session.context.kept)) point
leads-play old live locks seen (row.Acquire wish rest) mark a session fair point =
    let more = λ (id : ℕ) (after : Session). play (rest id) mark after in
    leads-bind (λ outcome b. IsMet wish session.context outcome × Followed a session.context b outcome.1) (Comes old) (acquiring wish session.context)
    (playing.acquired wish rest mark session more) a
    (leads-each (IsMet wish session.context) (λ (outcome : Outcome Acquire) b. Followed a session.context b outcome.1) (acquiring wish session.context) a
    (met_acquiring wish session.context) (leads-acquiring a wish session.context point.fits))
    (λ outcome b h. leads-acquired old live locks seen mark wish rest more a b session outcome fair
    (λ id c after now. leads-play old live (with_lock wish.duration id wish.key locks) seen (rest id) mark c after (fair id) now) point h.1 h.0)
leads-play old live locks seen (row.Try_acquire wish rest) mark a session fair point =
    let more = λ (got : Option ℕ) (after : Session). play (rest got) mark after in
    leads-bind (λ (outcome : Outcome Tried) b. Followed a session.context b outcome.1) (Comes old) (trying wish session.context)
    (playing.tried mark session more) a (leads-trying a wish session.context point.fits)
    (λ outcome b followed. leads-tried old live locks seen mark more a b session outcome
    (λ got c after now. leads-play old live locks seen (rest got) mark c after (fair got) now) point followed)
leads-play old live locks seen (row.Last key rest) mark a session fair point =
    let held = last_ticket key session.context in leads-play old live locks seen (rest held) mark a session (fair held) point
leads-play old live locks seen (row.Upgrade id key mode rest) mark a session fair point =
    let wish = playing.upgrade_wish key mode in
    let more = λ (id : ℕ) (after : Session). play (rest id) mark after in
    leads-bind (Raised session.context) (Comes old) (upgrading id mode session.context) (playing.acquired wish rest mark session more) a
    (leads-upgrading a id mode session.context point.fits)
    (λ outcome b raised. leads-raised old live locks seen mark wish rest more a b session outcome fair.0 fair.1
    (λ new c after now. leads-play old live [] [] (rest new) mark c after (fair.1 new) now) point raised)
leads-play old live locks seen (row.Downgrade id mode rest) mark a session fair point =
    leads-bind (λ (outcome : Outcome (Unit {0})) b. Fits b outcome.1 × (outcome.1.who ≡ session.context.who)) (Comes old) (downgrading id mode session.context)
    (λ outcome. play rest mark (with_context session outcome.1)) a (leads-downgrading a id mode session.context point.fits)
    (λ outcome b left. leads-play old live [] [] rest mark b (with_context session outcome.1) fair.1
    (point-cleared old live locks seen mark a session.context session.state point b outcome.1 left.0 fair.0))
leads-play old live locks seen (row.Give_up which rest) mark a session fair point =
    let gone = which session.context.kept in
    leads-bind (λ (outcome : Outcome (Unit {0})) b. GaveUp a gone session.context b outcome.1) (Comes old) (releasing_tickets gone session.context)
    (λ outcome. play rest mark (with_context session outcome.1)) a (leads-giving_up a gone session.context point.fits)
    (λ outcome b gave. leads-play old live [] [] rest mark b (with_context session outcome.1) fair.1
    (point-cleared old live locks seen mark a session.context session.state point b outcome.1 gave.fits fair.0))
leads-play old live locks seen (row.Release id rest) mark a session fair point =
    leads-bind (λ (outcome : Outcome (Unit {0})) b. Fits b outcome.1 × (outcome.1.who ≡ session.context.who)) (Comes old) (releasing id session.context)
    (λ outcome. play rest mark (with_context session outcome.1)) a (leads-releasing a id session.context point.fits)
    (λ outcome b left. leads-play old live [] [] rest mark b (with_context session outcome.1) fair.1
    (point-cleared old live locks seen mark a session.context session.state point b outcome.1 left.0 fair.0))
leads-play old live locks seen (row.Keep rest) mark a session fair point =
    leads-play old live [] [] rest mark a (playing.all_kept session) fair.1
    (point-cleared old live locks seen mark a session.context session.state point a (playing.all_kept session).context
    (fits-kept a session.context point.fits) fair.0)
leads-play old live locks seen (row.Read id rest) mark a session fair point = λ answer b joins.
    leads-read old live locks seen mark id (λ standing. play (rest standing) mark session) a b session answer point joins
    (λ standing now. leads-play old live locks (seen_under id standing locks ++ seen) (rest standing) mark b session (fair standing) now)
leads-play old live locks seen (row.Redefine id change rest) mark a session fair point = λ answer b joins.
    leads-change old live locks seen mark id change (play rest mark session) a b session answer point fair.0 joins
    (λ now. leads-play old live [] [] rest mark b session fair.1 now)
leads-play old live locks seen (row.Tables_of schema rest) mark a session fair point = λ answer b joins.
    leads-tables old live locks seen mark schema (λ tables. play (rest tables) mark session) a b session answer point joins
    (λ tables now. leads-play old live locks seen (rest tables) mark b session (fair tables) now)
leads-play old live locks seen (row.Key_of place rest) mark a session fair point = λ answer b joins.
    leads-key old live locks seen mark place (λ key. play (rest key) mark session) a b session answer point joins
    (λ key now. leads-play old live locks seen (rest key) mark b session (fair key) now)
leads-play old live locks seen (row.Kill target rest) mark a session fair point = λ answer b joins.
    leads-told old live locks seen mark target (play rest mark session) b b session answer
    (point-same old live locks seen mark a session.context session.state point b
    (stays-other session.context.who a b (Wait_of target) answer point.fits.speaks (λ e. cc) joins))
    (λ c now. leads-play old live locks seen rest mark c session fair now)

-- to look at the session comes to nothing
pub leads-begun : (old : TableShown → Type 0) (asked : Row Reply) (mark : Mark) (a : Core) (session : Session)
    → Leads (Comes old) (play (begun asked session.state) mark session) a → Leads (Comes old) (play asked mark session) a
leads-begun old (row.Give reply) mark a session leads = leads
leads-begun old (row.Fail number) mark a session leads = leads
leads-begun old (row.Room rest) mark a session leads = leads
leads-begun old (row.Look rest) mark a session leads = leads
leads-begun old (row.Set change rest) mark a session leads = leads
leads-begun old (row.Here rest) mark a session leads = leads
leads-begun old (row.Acquire wish rest) mark a session leads = leads
leads-begun old (row.Try_acquire wish rest) mark a session leads = leads
leads-begun old (row.Last key rest) mark a session leads = leads
leads-begun old (row.Give_up which rest) mark a session leads = leads
leads-begun old (row.Release id rest) mark a session leads = leads
leads-begun old (row.Keep rest) mark a session leads = leads
leads-begun old (row.Upgrade id key mode rest) mark a session leads = leads
leads-begun old (row.Downgrade id mode rest) mark a session leads = leads
leads-begun old (row.Read id rest) mark a session leads = leads
leads-begun old (row.Redefine id change rest) mark a session leads = leads
leads-begun old (row.Tables_of schema rest) mark a session leads = leads
leads-begun old (row.Key_of place rest) mark a session leads = leads
leads-begun old (row.Kill target rest) mark a session leads = leads

-- ---- what is left of a statement

leads-resumed : (old : TableShown → Type 0) (a b : Core) (session : Session) (waiting : IsWaiting old a session) (outcome : Outcome Resume)
    → Resumed a session.context outcome b → Leads (Comes old) (playing.resumed waiting.rest (record session { left = None }) outcome) b
leads-resumed old a b session waiting (Ok resume.Waiting, context) resumed =
    let still = resumed.1 waiting.wanted waiting.wait in
    let now = point-followed old waiting.live waiting.locks waiting.seen waiting.rest.mark a session.context session.state waiting.point b context
    (followed-spared a b session.context context waiting.point.fits resumed.0) in
    inl (record {
      rest = waiting.rest;
      left = refl;
      live = waiting.live;
      locks = waiting.locks;
      seen = waiting.seen;
      key = waiting.key;
      wanted = still.0;
      wait = still.1;
      gains = still.4 ∙ waiting.gains;
      at = subst (λ w. Knows b w still.0.place waiting.key) (sym resumed.0.who)
          (subst (λ p. Knows b session.context.who p waiting.key) (sym still.2) (resumed.0.spares.known waiting.wanted.place waiting.key waiting.at));
      point = now;
      fair = λ id. subst (λ d. IsFair old waiting.live (with_lock d id waiting.key waiting.locks) waiting.seen (waiting.rest.rest id)) (sym still.3)
          (waiting.fair id);
    })
leads-resumed old a b session waiting (Ok (resume.Acquired id), context) resumed =
    let now = point-followed old waiting.live waiting.locks waiting.seen waiting.rest.mark a session.context session.state waiting.point b context
    (followed-spared a b session.context context waiting.point.fits resumed.0) in
    let had = resumed.1 waiting.wanted waiting.wait in
    leads-play old waiting.live (with_lock waiting.wanted.duration id waiting.key waiting.locks) waiting.seen (waiting.rest.rest id) waiting.rest.mark b
    (record { context = context; state = session.state; left = None }) (waiting.fair id)
    (point-locked old waiting.live waiting.locks waiting.seen waiting.rest.mark b context session.state now waiting.wanted.duration id waiting.key
    (λ lasting. record {
      ticket = had.0;
      there = subst (λ w. Contains (locks_at b w).held had.0) (sym resumed.0.who) had.1;
      number = had.2;
      at = subst (λ w. Knows b w had.0.place waiting.key) (sym resumed.0.who)
          (subst (λ p. Knows b session.context.who p waiting.key) (sym had.3) (resumed.0.spares.known waiting.wanted.place waiting.key waiting.at));
      firm = λ k among e. (
          let new = had.4 in
          let same = resumed.0.fits.alone new.0 k new.1 among (new.2 ∙ sym had.2 ∙ sym e) in
          lasts-longer k (subst (λ d. (duration_rank d == duration_rank Transaction) ≡ true) (sym lasting ∙ sym new.3 ∙ same) refl));
    }))
leads-resumed old a b session waiting (Ok (resume.Lost how), context) resumed =
    leads-closing old waiting.live waiting.locks waiting.seen waiting.rest.mark b (record { context = context; state = session.state; left = None })
    (point-followed old waiting.live waiting.locks waiting.seen waiting.rest.mark a session.context session.state waiting.point b context resumed)
    (ending_of_loss (waits_for_user_lock session.context) how)
    (λ lives x tell. absurd (tells_no_loss (waits_for_user_lock session.context) how x tell))
leads-resumed old a b session waiting (Err error, context) resumed =
    leads-closing old waiting.live waiting.locks waiting.seen waiting.rest.mark b (record { context = context; state = session.state; left = None })
    (point-followed old waiting.live waiting.locks waiting.seen waiting.rest.mark a session.context session.state waiting.point b context resumed)
    (ending_of_error error) (λ lives x tell. absurd (tells_no_error error x tell))

-- the same of one that waits to make a lock stronger
leads-won : (old : TableShown → Type 0) (a b : Core) (session : Session) (raising : IsRaising old a session) (outcome : Outcome Resume)
    → Won session.context outcome b → Leads (Comes old) (playing.resumed raising.rest (record session { left = None }) outcome) b
leads-won old a b session raising (Ok resume.Waiting, context) won = inr (record {
  rest = raising.rest;
  left = refl;
  live = raising.live;
  nothing = raising.nothing;
  upgrading = won.2;
  point = point-cleared old raising.live [] [] raising.rest.mark a session.context session.state raising.point b context won.0 raising.nothing;
  fair = raising.fair;
})
leads-won old a b session raising (Ok (resume.Acquired id), context) won =
    leads-play old raising.live [] [] (raising.rest.rest id) raising.rest.mark b (record { context = context; state = session.state; left = None })
    (raising.fair id) (point-cleared old raising.live [] [] raising.rest.mark a session.context session.state raising.point b context won.0 raising.nothing)
leads-won old a b session raising (Ok (resume.Lost how), context) won =
    leads-closing old raising.live [] [] raising.rest.mark b (record { context = context; state = session.state; left = None })
    (point-cleared old raising.live [] [] raising.rest.mark a session.context session.state raising.point b context won.0 raising.nothing)
    (ending_of_loss (waits_for_user_lock session.context) how)
    (λ lives x tell. absurd (tells_no_loss (waits_for_user_lock session.context) how x tell))
leads-won old a b session raising (Err error, context) won =
    leads-closing old raising.live [] [] raising.rest.mark b (record { context = context; state = session.state; left = None })
    (point-cleared old raising.live [] [] raising.rest.mark a session.context session.state raising.point b context won.0 raising.nothing)
    (ending_of_error error) (λ lives x tell. absurd (tells_no_error error x tell))

-- a statement goes on
pub leads-going : (old : TableShown → Type 0) (a : Core) (session : Session) → Keeps old a session → Leads (Comes old) (playing.going_on session) a
leads-going old a session (inl rests) = go session.left rests.left
  where
    go : (o : Option Left) → o ≡ None → Leads (Comes old) (playing.going_on_with o (record session { left = None })) a
    go None e = record { left = refl; fits = rests.fits; unlocked = rests.unlocked; kept = rests.kept }
    go (Some left) e = cc
leads-going old a session (inr (inl waiting)) =
    subst (λ o. Leads (Comes old) (playing.going_on_with o (record session { left = None })) a) (sym waiting.left)
    (leads-bind (Resumed a session.context) (Comes old) (resuming session.context) (playing.resumed waiting.rest (record session { left = None })) a
    (leads-resuming a session.context (ap awaited_upgrade waiting.wait ∙ waiting.gains) waiting.point.fits) (λ outcome b resumed. leads-resumed old a b session waiting outcome resumed))
leads-going old a session (inr (inr raising)) =
    subst (λ o. Leads (Comes old) (playing.going_on_with o (record session { left = None })) a) (sym raising.left)
    (leads-bind (Won session.context) (Comes old) (resuming session.context) (playing.resumed raising.rest (record session { left = None })) a
    (leads-winning a session.context raising.upgrading raising.point.fits) (λ outcome b won. leads-won old a b session raising outcome won))
