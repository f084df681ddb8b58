-- What a session was shown of a table is what it is shown again, and what stands, while its transaction is open.
use Rattle.std.proofs.Common.{◌≡◌, inl, inr, ℕ, zero, suc, true, List, [], ◌∷◌, ◌++◌, Option, Some, None, is_some, refl, sym, ap, ◌∙◌}
use Rattle.std.specs.List.{All}
use Rattle.std.proofs.lemmas.List.Elements.{All-append, All-cons, All-contains, All-head, All-nil, All-tail}
use Rattle.mdl_defs.specs.declared.definition.Definition.{Definition}
use Rattle.mdl_system.specs.Words.{Versioned}
use Rattle.mdl_core.specs.CoreSystems.{defined_in, system_of}
use Rattle.mdl_core.specs.Cores.{Core, book_at, key_at}
use Rattle.mdl_core.proofs.CoreGranted.{book_of-at}
use Rattle.mdl_context.specs.Contexts.{ContextView}
use Rattle.mdl_lines.specs.Sessions.{IsScriptSession}
use Rattle.mdl_syntax.specs.declared.script.Line.{Line}
use Rattle.mdl_rows.specs.declared.reply.Reply.TheVariants as reply
use Rattle.mdl_rows.specs.declared.reply.TableShown.{TableShown}
use Rattle.mdl_rows.specs.Endings.{Pause, Ends, Begins_to_wait, Waits_on, Faults}
use Rattle.mdl_rows.specs.Sessions.{Session}
use Rattle.mdl_rows.specs.Statements.{table_columns}
use Rattle.mdl_script.specs.declared.told.News.TheVariants.{Ends as Has_ended, Waits as Has_waits}
use Rattle.mdl_script.specs.declared.told.Told.{Told}
use Rattle.mdl_script.specs.Worlds.{Scene, World, ask_session, continuing_settled, first_settled, first_world, going, going_first, line_played, lines_played, most_turns, player_at, reports_of, script_played}
use Rattle.mdl_script.proofs.SoundLemmas.{first-session}
use Rattle.mdl_script_laws.specs.Shown.{AreOfSessions, IsShownTo, LeavesTransaction, StandsAsShown, TransactionsKeepWhatTheySaw, TransactionsSeeOneDefinition, has_transaction}
use Rattle.mdl_script_laws.proofs.ScriptLemmas.{asked-by}
use Rattle.mdl_script_laws.proofs.ShownCalls.{key-held}
use Rattle.mdl_script_laws.proofs.ShownContexts.{Fits}
use Rattle.mdl_script_laws.proofs.ShownPoints.{IsStanding, shown_at}
use Rattle.mdl_script_laws.proofs.ShownStages.{Keeps}
use Rattle.mdl_script_laws.proofs.ShownWorlds.{IsGood, IsGoodScene, Nothing, good-first, good-lines, scene-line, scene-lines, with_table}

-- ---- whom something is told

-- a session that there is
abbrev IsToldToSession : Told → Type 0
IsToldToSession told = IsScriptSession told.who

told-one : (t : Told) → IsScriptSession t.who → All IsToldToSession (t ∷ [])
told-one t is = All-cons IsToldToSession t [] is (All-nil IsToldToSession)

told-of : (line s : ℕ) (pause : Pause) → IsScriptSession s → All IsToldToSession (reports_of line s pause)
told-of line s (Ends r session) is = told-one (record { line = line; who = s; news = Has_ended r }) is
told-of line s (Begins_to_wait key mode session) is = told-one (record { line = line; who = s; news = Has_waits key mode }) is
told-of line s (Waits_on session) is = All-nil IsToldToSession
told-of line s (Faults session) is = All-nil IsToldToSession

told-asked : (line : Line) (world : World) → IsScriptSession line.session → All IsToldToSession (ask_session line world).told
told-asked line world is =
    asked-by (λ scene. All IsToldToSession scene.told) line world (told-one _ is) (told-one _ is) (λ idle. told-of line.number line.session _ is)

told-first : (first : Option ℕ) (world : World) (more : World → Scene) → first_settled world ≡ first
    → ((after : World) → All IsToldToSession (more after).told) → All IsToldToSession (going_first first more world).told
told-first None world more found rest = All-nil IsToldToSession
told-first (Some s) world more found rest =
    All-append IsToldToSession (going s world).told (more (going s world).world).told
    (told-of (player_at s world).line s _ (first-session world s found)) (rest (going s world).world)

told-settling : (n : ℕ) (world : World) → All IsToldToSession (continuing_settled n world).told
unfolding continuing_settled
told-settling zero world = All-nil IsToldToSession
told-settling (suc n) world = told-first (first_settled world) world (continuing_settled n) refl (told-settling n)

-- all that is told is told to sessions that there are
told-line : (line : Line) (world : World) → IsScriptSession line.session → All IsToldToSession (line_played line world).told
told-line line world is =
    All-append IsToldToSession (ask_session line world).told (continuing_settled most_turns (ask_session line world).world).told (told-asked line world is)
    (told-settling most_turns (ask_session line world).world)

-- ---- after a line that shows a table

all-left : {X : Type 0} (P : X → Type 0) (xs ys : List X) → All P (xs ++ ys) → All P xs
all-left P [] ys all = All-nil P
all-left P (x ∷ xs) ys all = All-cons P x xs (All-head P x (xs ++ ys) all) (all-left P xs ys (All-tail P x (xs ++ ys) all))

all-right : {X : Type 0} (P : X → Type 0) (xs ys : List X) → All P (xs ++ ys) → All P ys
all-right P [] ys all = all
all-right P (x ∷ xs) ys all = all-right P xs ys (All-tail P x (xs ++ ys) all)

-- what was shown to a session whose transaction is open stands
stands-open : (old : TableShown → Type 0) (a : Core) (session : Session) (x : TableShown) → Keeps old a session → old x → session.state.is_open ≡ true
    → IsStanding a session.context x
stands-open old a session x (inl rests) is opens = rests.kept x is opens
stands-open old a session x (inr (inl waiting)) is opens = (waiting.point.kept x is (waiting.point.was opens)).0
stands-open old a session x (inr (inr raising)) is opens = absurd (raising.nothing x is (raising.point.was opens))

-- under one key one thing stands
one-standing : (a : Core) (context : ContextView) (one other : TableShown) → Fits a context → IsStanding a context one → IsStanding a context other
    → one.key ≡ other.key → one ≡ other
one-standing a context one other fits here there same =
    let key : key_at here.ticket.place a ≡ key_at there.ticket.place a =
    ap (λ (x : TableShown). x.key) here.shown ∙ same ∙ sym (ap (λ (x : TableShown). x.key) there.shown) in
    let place = fits.speaks.1.tied.keys here.ticket.place there.ticket.place (key-held a context.who here.ticket fits.speaks here.there)
    (key-held a context.who there.ticket fits.speaks there.there) key in
    sym here.shown ∙ ap (λ p. shown_at p a) place ∙ there.shown

keeps-fits : (old : TableShown → Type 0) (a : Core) (session : Session) → Keeps old a session → Fits a session.context
keeps-fits old a session (inl rests) = rests.fits
keeps-fits old a session (inr (inl waiting)) = waiting.point.fits
keeps-fits old a session (inr (inr raising)) = raising.point.fits

-- what stands under a ticket is what the system has under its key
standing-defined : (a : Core) (context : ContextView) (table : TableShown) → Fits a context → IsStanding a context table
    → let defined = (system_of a).definitions table.key in
    (is_some defined.definition ≡ true) × (defined.version ≡ table.version) × (table_columns defined.definition ≡ table.columns)
standing-defined a context table fits stands =
    let place = stands.ticket.place in
    let key : key_at place a ≡ table.key = ap (λ (x : TableShown). x.key) stands.shown in
    let there = book_of-at a place fits.speaks.1.tied (key-held a context.who stands.ticket fits.speaks stands.there) in
    let defined : (system_of a).definitions table.key ≡ defined_in (book_at place a) = ap (system_of a).definitions (sym key) ∙ ap defined_in there in (
      ap (λ (d : Versioned Definition). is_some d.definition) defined ∙ stands.defined,
      ap (λ (d : Versioned Definition). d.version) defined ∙ ap (λ (x : TableShown). x.version) stands.shown,
      ap (λ (d : Versioned Definition). table_columns d.definition) defined ∙ ap (λ (x : TableShown). x.columns) stands.shown,
    )

-- after a line by which a table was shown to a session, so it is with that table
good-shown : (before : List Line) (line : Line) (who : ℕ) (table : TableShown) → AreOfSessions before → IsScriptSession line.session
    → IsShownTo who (line_played line (script_played before).world).told table
    → IsScriptSession who × IsGood who (with_table Nothing table) (line_played line (script_played before).world).world
good-shown before line who table are is shown =
    let start = (script_played before).world in
    let told : Told = record { line = shown.0; who = who; news = Has_ended (reply.Columns shown.1) } in
    let session = All-contains IsToldToSession (line_played line start).told told (told-line line start is) shown.2 in (
      session,
      (scene-line who session Nothing line start is (λ e. inr (λ x none. none))
          (good-lines who session before first_world are (good-first who session))).shown table shown,
    )

module _ (before : List Line) (line : Line) (later : List Line) (who : ℕ) (one : TableShown) (are : AreOfSessions (before ++ line ∷ later))
    (shown : IsShownTo who (line_played line (script_played before).world).told one)
    (leave : LeavesTransaction who later) where
  abbrev early : World
  early = (line_played line (script_played before).world).world

  abbrev late : World
  late = (lines_played later early).world

  abbrev of_sessions : AreOfSessions (line ∷ later)
  of_sessions = all-right (λ (l : Line). IsScriptSession l.session) before (line ∷ later) are

  -- so it is after the later lines
  later-scene : IsGoodScene who (with_table Nothing one) (lines_played later early)
  later-scene =
      let first = good-shown before line who one (all-left (λ (l : Line). IsScriptSession l.session) before (line ∷ later) are)
      (All-head (λ (l : Line). IsScriptSession l.session) line later of_sessions) shown in
      scene-lines who first.0 (with_table Nothing one) later early (All-tail (λ (l : Line). IsScriptSession l.session) line later of_sessions) leave first.1

  pub shown-again : (other : TableShown) → has_transaction who late ≡ true → IsShownTo who (lines_played later early).told other → one.key ≡ other.key → one ≡ other
  shown-again other opens again same =
      let keeps = (later-scene.shown other again).own in
      let session = (player_at who late).session in
      let facts = with_table (with_table Nothing one) other in
      one-standing late.core session.context one other (keeps-fits facts late.core session keeps)
      (stands-open facts late.core session one keeps (inl (inr refl)) opens)
      (stands-open facts late.core session other keeps (inr refl) opens) same

  pub shown-stands : has_transaction who late ≡ true → StandsAsShown late one
  shown-stands opens =
      let keeps = later-scene.good.own in
      let session = (player_at who late).session in
      let facts = with_table Nothing one in
      standing-defined late.core session.context one (keeps-fits facts late.core session keeps) (stands-open facts late.core session one keeps (inr refl) opens)

-- ---- the laws

pub transactions-see_one : TransactionsSeeOneDefinition
transactions-see_one before line later who one other are shown leave opens again same =
    shown-again before line later who one are shown leave other opens again same

pub transactions-keep : TransactionsKeepWhatTheySaw
transactions-keep before line later who table are shown leave opens = shown-stands before line later who table are shown leave opens
