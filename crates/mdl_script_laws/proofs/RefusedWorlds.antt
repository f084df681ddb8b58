-- Line by line, early refusals are answers of lines that changed nothing.
use Rattle.std.proofs.Common.{◌≡◌, ◌≢◌, ℕ, zero, suc, true, false, List, [], ◌∷◌, drop, take, Some, None, ◌⊎◌, inl, inr, refl, sym, ap, ◌∙◌, subst}
use Rattle.std.specs.Prelude.{is_some, IsTrue}
use Rattle.std.specs.List.{All}
use Rattle.std.proofs.lemmas.Bool.{false≢true}
use Rattle.std.proofs.lemmas.List.Elements.{All-append, All-cons, All-head, All-nil, All-tail}
use Rattle.mdl_key.specs.Keys.{KeyName}
use Rattle.mdl_calls.specs.Words.{Each, Program, Runs, outcome_of}
use Rattle.mdl_core.specs.CoreCalls.{outcome}
use Rattle.mdl_core.specs.CoreJoins.{Joins, SpeaksFor}
use Rattle.mdl_core.specs.Cores.{Core}
use Rattle.mdl_context.specs.Tidying.{is_needed}
use Rattle.mdl_lines.specs.Sessions.{IsScriptSession}
use Rattle.mdl_syntax.specs.declared.script.Line.{Line}
use Rattle.mdl_rows.specs.declared.reply.Reply.TheVariants as reply
use Rattle.mdl_rows.specs.Endings.{Pause, Ends, Begins_to_wait, Waits_on, Faults}
use Rattle.mdl_rows.specs.MemoryLaws.{session_of_pause}
use Rattle.mdl_rows.specs.Playing.{going_on, going_on_with, starting}
use Rattle.mdl_rows.specs.Sessions.{Session}
use Rattle.mdl_rows.proofs.RowOutcomes.{rows_keep_sound}
use Rattle.mdl_script.specs.declared.told.News.{News}
use Rattle.mdl_script.specs.declared.told.News.TheVariants.{Busy, Ends as Has_ended}
use Rattle.mdl_script.specs.declared.told.Told.{Told}
use Rattle.mdl_script.specs.Worlds.{Player, World, after_timeout, ask_session, continuing_settled, first_settled, first_world, going, line_played, lines_played, most_turns, player_at, reports_of, script_played, session_waits, started, unasked_player}
use Rattle.mdl_script.proofs.SettleLemmas.{read-sessions}
use Rattle.mdl_script.proofs.SoundLemmas.{IsStaffed, first-session, staffed-first}
use Rattle.mdl_script_laws.specs.IdleSessions.{IdleSessionsAreTidy}
use Rattle.mdl_script_laws.specs.RefusalsFirst.{EndsTidy, IsTidy, IsUnderway}
use Rattle.mdl_script_laws.specs.RefusedLines.{IsSameWorld, RefusedLinesChangeNothing, is_early_refusal}
use Rattle.mdl_script_laws.proofs.EarlyPlays.{IsLateLeft, IsLatePause, IsUntouched, late_going_on, statements_untouched}
use Rattle.mdl_script_laws.proofs.OrderlyPlays.{stay_tidy}
use Rattle.mdl_script_laws.proofs.OutcomeLemmas.{each-outcome}
use Rattle.mdl_script_laws.proofs.ScriptLemmas.{IsKept, Keeps, asked-by, kept-asked, kept-line, kept-lines, kept-settling, new-session, plays-each, telling}

-- a session is tidy, or in the midst of a statement that is no longer refused early
abbrev IsReady : Session → Type 0
IsReady session = IsTidy session ⊎ (IsUnderway session × IsLateLeft session.left)

-- as a statement has come so far, it is
ready-at : (pause : Pause) → EndsTidy pause → IsLatePause pause → IsReady (session_of_pause pause)
ready-at (Ends answer session) orderly late = inl orderly
ready-at (Begins_to_wait key mode session) orderly late = inr (orderly, late)
ready-at (Waits_on session) orderly late = inr (orderly, late)
ready-at (Faults session) orderly late = inl orderly

ready-untouched : (session : Session) (a b : Core) (pause : Pause) → EndsTidy pause → IsUntouched session a pause b → IsReady (session_of_pause pause)
ready-untouched session a b (Ends answer after) orderly untouched = inl orderly
ready-untouched session a b (Begins_to_wait key mode after) orderly untouched = inr (orderly, untouched)
ready-untouched session a b (Waits_on after) orderly untouched = inr (orderly, untouched)
ready-untouched session a b (Faults after) orderly untouched = inl orderly

-- one that doesn't wait is tidy
ready-rests : (session : Session) → is_some session.left ≡ false → IsReady session → IsTidy session
ready-rests session rests (inl tidy) = tidy
ready-rests session rests (inr ((left, is, start), late)) = absurd (false≢true (sym rests ∙ ap (λ o. is_some o) is))

-- and all sessions are
abbrev AreReady : World → Type 0
AreReady world = (who : ℕ) → IsScriptSession who → IsReady (player_at who world).session

-- no statement that goes on is refused early
abbrev IsNoRefusal : Told → Type 0
IsNoRefusal told = is_early_refusal told.news ≡ false

-- ---- statements that go on

-- what is left of one comes in order, and is never refused early
goes-late : (session : Session) → IsReady session → Each EndsTidy (going_on session) × Each IsLatePause (going_on session)
goes-late session (inr (underway, late)) = ((stay_tidy session).1 underway, late_going_on session.left (record session { left = None }) late)
goes-late session (inl tidy) =
    let resting : Session = record session { left = None } in
    subst (λ left. Each EndsTidy (going_on_with left resting) × Each IsLatePause (going_on_with left resting)) (sym tidy.over)
    (record { over = refl; statement = tidy.statement; transaction = tidy.transaction; whole = tidy.whole; places = tidy.places }, tt)

told-late : (line who : ℕ) (pause : Pause) → IsLatePause pause → All IsNoRefusal (reports_of line who pause)
told-late line who (Ends reply.Ok session) late = All-cons IsNoRefusal _ [] refl (All-nil IsNoRefusal)
told-late line who (Ends (reply.Columns tables) session) late = All-cons IsNoRefusal _ [] refl (All-nil IsNoRefusal)
told-late line who (Ends (reply.Number truth) session) late = All-cons IsNoRefusal _ [] refl (All-nil IsNoRefusal)
told-late line who (Ends reply.Null session) late = All-cons IsNoRefusal _ [] refl (All-nil IsNoRefusal)
told-late line who (Ends (reply.Error number) session) late = All-cons IsNoRefusal _ [] late (All-nil IsNoRefusal)
told-late line who (Begins_to_wait key mode session) late = All-cons IsNoRefusal _ [] refl (All-nil IsNoRefusal)
told-late line who (Waits_on session) late = All-nil IsNoRefusal
told-late line who (Faults session) late = All-nil IsNoRefusal

ready-going : (who : ℕ) (world : World) → first_settled world ≡ Some who → IsStaffed world → AreReady world
    → AreReady (going who world).world × All IsNoRefusal (going who world).told
ready-going who world found staffed ready = (
  plays-each player.line who (going_on player.session) world is staffed (λ w p. IsReady p.session)
      (ready-at end (each-outcome EndsTidy outcome (going_on player.session) world.core orderly.0) late) (λ w there _. ready w there),
  told-late player.line who end late,
)
  where
    player : Player
    player = player_at who world

    is : IsScriptSession who
    is = first-session world who found

    end : Pause
    end = (outcome_of outcome (going_on player.session) world.core).0

    orderly : Each EndsTidy (going_on player.session) × Each IsLatePause (going_on player.session)
    orderly = goes-late player.session (ready who is)

    late : IsLatePause end
    late = each-outcome IsLatePause outcome (going_on player.session) world.core orderly.1

-- ---- statements that start

-- early refusals are told of this line, and the world is as it was
abbrev IsOfThisLine : Line → World → World → Told → Type 0
IsOfThisLine line world after told = IsTrue (is_early_refusal told.news) → (told.line ≡ line.number) × (told.who ≡ line.session) × IsSameWorld world after

told-untouched : (line : Line) (world after : World) (session : Session) (a b : Core) (pause : Pause) → IsUntouched session a pause b
    → (session_of_pause pause ≡ session → b ≡ a → IsSameWorld world after) → All (IsOfThisLine line world after) (reports_of line.number line.session pause)
told-untouched line world after session a b (Ends (reply.Error number) s) untouched same =
    All-cons (IsOfThisLine line world after) _ [] (λ early. let h = untouched early in (refl, refl, same h.0 h.1)) (All-nil (IsOfThisLine line world after))
told-untouched line world after session a b (Ends reply.Ok s) untouched same =
    All-cons (IsOfThisLine line world after) _ [] (λ early. absurd (false≢true early)) (All-nil (IsOfThisLine line world after))
told-untouched line world after session a b (Ends (reply.Columns tables) s) untouched same =
    All-cons (IsOfThisLine line world after) _ [] (λ early. absurd (false≢true early)) (All-nil (IsOfThisLine line world after))
told-untouched line world after session a b (Ends (reply.Number truth) s) untouched same =
    All-cons (IsOfThisLine line world after) _ [] (λ early. absurd (false≢true early)) (All-nil (IsOfThisLine line world after))
told-untouched line world after session a b (Ends reply.Null s) untouched same =
    All-cons (IsOfThisLine line world after) _ [] (λ early. absurd (false≢true early)) (All-nil (IsOfThisLine line world after))
told-untouched line world after session a b (Begins_to_wait key mode s) untouched same =
    All-cons (IsOfThisLine line world after) _ [] (λ early. absurd (false≢true early)) (All-nil (IsOfThisLine line world after))
told-untouched line world after session a b (Waits_on s) untouched same = All-nil (IsOfThisLine line world after)
told-untouched line world after session a b (Faults s) untouched same = All-nil (IsOfThisLine line world after)

ready-started : (line : Line) (world : World) → IsScriptSession line.session → session_waits world line.session ≡ false → IsStaffed world → AreReady world
    → AreReady (started line world).world × All (IsOfThisLine line world (started line world).world) (started line world).told
ready-started line world is rests staffed ready = (
  each (λ w p. IsReady p.session) (ready-untouched session world.core end.1 end.0 orderly untouched) (λ w there _. ready w there),
  told-untouched line world (started line world).world session world.core end.1 end.0 untouched
      (λ same there. record { space = there; sessions = each (λ w p. p.session ≡ (player_at w world).session) same (λ w _ _. refl) }),
) where
  session : Session
  session = (player_at line.session world).session

  program : Program Pause
  program = starting line.statement session

  end : Pause × Core
  end = outcome_of outcome program world.core

  each : (P : ℕ → Player → Type 0) → P line.session (record { session = session_of_pause end.0; line = line.number })
      → ((w : ℕ) → IsScriptSession w → w ≢ line.session → P w (player_at w world))
      → (w : ℕ) → IsScriptSession w → P w (player_at w (started line world).world)
  each = plays-each line.number line.session program world is staffed

  tidy : IsTidy session
  tidy = ready-rests session rests (ready line.session is)

  run : Runs Joins world.core program end.0 end.1
  run =
      let speaks = subst (SpeaksFor world.core) (sym (staffed.named line.session is)) (staffed.speaks line.session is.0 is.1) in
      ((rows_keep_sound session).1 line.statement world.core speaks).0

  orderly : EndsTidy end.0
  orderly = each-outcome EndsTidy outcome program world.core ((stay_tidy session).0 line.statement tidy.statement)

  untouched : IsUntouched session world.core end.0 end.1
  untouched = statements_untouched line.statement session world.core end.1 end.0 tidy run

-- ---- lines

keeps-ready : Keeps AreReady IsNoRefusal
keeps-ready = record {
  starts = λ line world is rests staffed ready. (ready-started line world is rests staffed ready).0;
  goes = ready-going;
  ends = λ who world is staffed ready. ready;
}

told-asked : (line : Line) (world : World) → IsScriptSession line.session → IsKept AreReady world
    → All (IsOfThisLine line world (ask_session line world).world) (ask_session line world).told
told-asked line world is kept =
    asked-by (λ scene. All (IsOfThisLine line world scene.world) scene.told) line world
    (none (after_timeout line.session world) (Has_ended reply.Ok) refl) (none world Busy refl) (λ e. (ready-started line world is e kept.staffed kept.so).1) where
      -- a session that waits is told no early refusal
      none : (after : World) (news : News) → is_early_refusal news ≡ false → All (IsOfThisLine line world after) (telling line.number line.session news after).told
      none after news is = All-cons (IsOfThisLine line world after) _ [] (λ early. absurd (false≢true (sym is ∙ early))) (All-nil (IsOfThisLine line world after))

-- early refusals are told of lines, and each of these leaves the world as it was
abbrev IsOfLineFrom : List Line → World → Told → Type 0
IsOfLineFrom lines world told =
    IsTrue (is_early_refusal told.news) → (n : ℕ) × (line : Line) × (more : List Line) × (drop n lines ≡ line ∷ more) × (told.line ≡ line.number)
    × (told.who ≡ line.session) × (let before = (lines_played (take n lines) world).world in IsSameWorld before (ask_session line before).world)

-- those that are told as the first line is played, and those that are told later
told-line : (line : Line) (lines : List Line) (world : World) → IsScriptSession line.session → IsKept AreReady world
    → All (IsOfLineFrom lines (line_played line world).world) (lines_played lines (line_played line world).world).told
    → All (IsOfLineFrom (line ∷ lines) world) (lines_played (line ∷ lines) world).told
told-line line lines world here kept others =
    All-append P (line_played line world).told (lines_played lines (line_played line world).world).told
    (All-append P (ask_session line world).told (continuing_settled most_turns after).told first later) rest
  where
    P : Told → Type 0
    P = IsOfLineFrom (line ∷ lines) world

    after : World
    after = (ask_session line world).world

    first : All P (ask_session line world).told
    first k d inside = λ early. let h = told-asked line world here kept k d inside early in (zero, line, lines, refl, h.0, h.1, h.2)

    settled : All IsNoRefusal (continuing_settled most_turns after).told
    settled = (kept-settling AreReady IsNoRefusal keeps-ready most_turns after (kept-asked AreReady IsNoRefusal keeps-ready line world here kept)).1

    later : All P (continuing_settled most_turns after).told
    later k d inside = λ early. absurd (false≢true (sym (settled k d inside) ∙ early))

    rest : All P (lines_played lines (line_played line world).world).told
    rest k d inside = λ early. let h = others k d inside early in (suc h.0, h.1, h.2, h.3, h.4, h.5, h.6)

told-lines : (lines : List Line) (world : World) → All (λ line. IsScriptSession line.session) lines → IsKept AreReady world
    → All (IsOfLineFrom lines world) (lines_played lines world).told
told-lines [] world is kept = All-nil (IsOfLineFrom [] world)
told-lines (line ∷ lines) world is kept =
    let here = All-head (λ l. IsScriptSession l.session) line lines is in
    told-line line lines world here kept
    (told-lines lines (line_played line world).world (All-tail (λ l. IsScriptSession l.session) line lines is)
    (kept-line AreReady IsNoRefusal keeps-ready line world here kept))

-- ---- scripts

ready-first : AreReady first_world
ready-first who is =
    subst (λ (p : Player). IsReady p.session) (sym (new-session who is)) (inl (record {
      over = refl;
      statement = refl;
      transaction = λ _. refl;
      whole = refl;
      places = All-nil (λ (entry : KeyName × ℕ). is_needed (unasked_player who).session.context entry.1 ≡ true);
    }))

kept-first : IsKept AreReady first_world
kept-first = record { staffed = staffed-first; so = ready-first }

pub refused_nothing : RefusedLinesChangeNothing
refused_nothing text lines read = told-lines lines first_world (read-sessions text lines read) kept-first

pub idle_tidy : IdleSessionsAreTidy
idle_tidy text lines read n who is rests =
    let kept = kept-lines AreReady IsNoRefusal keeps-ready n lines first_world (read-sessions text lines read) kept-first in
    ready-rests (player_at who (script_played (take n lines)).world).session rests (kept.so who is)
