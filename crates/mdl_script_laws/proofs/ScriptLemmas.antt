-- Line by line: what statements keep as they start and go on is so after each line of a script.
use Rattle.std.proofs.Common.{◌≡◌, ◌≢◌, ℕ, zero, suc, ◌<◌, ◌-◌, Bool, true, false, List, [], ◌∷◌, take, Option, Some, None, inl, inr, refl, sym, subst, arith}
use Rattle.std.specs.Prelude.{if◌then◌else◌}
use Rattle.std.specs.List.{All}
use Rattle.std.proofs.lemmas.Bool.Decides.{eqb_tells}
use Rattle.std.proofs.lemmas.List.{get_or-set_other, get_or-set_same}
use Rattle.std.proofs.lemmas.List.Elements.{All-append, All-head, All-nil, All-tail, All-take}
use Rattle.std.proofs.lemmas.List.FromFn.{get_or-map-range_with_len}
use Rattle.mdl_calls.specs.Words.{Program, outcome_of}
use Rattle.mdl_core.specs.CoreCalls.{outcome}
use Rattle.mdl_key.specs.Words.{most_sessions}
use Rattle.mdl_lines.specs.Sessions.{IsScriptSession}
use Rattle.mdl_syntax.specs.declared.script.Line.{Line}
use Rattle.mdl_syntax.specs.declared.statement.Statement.{Statement}
use Rattle.mdl_syntax.specs.declared.statement.Statement.TheVariants.{Timeout}
use Rattle.mdl_rows.specs.declared.reply.Reply.TheVariants as reply
use Rattle.mdl_rows.specs.Endings.{Pause}
use Rattle.mdl_rows.specs.MemoryLaws.{session_of_pause}
use Rattle.mdl_script.specs.declared.told.News.{News}
use Rattle.mdl_script.specs.declared.told.News.TheVariants.{Busy, Ends}
use Rattle.mdl_script.specs.declared.told.Told.{Told}
use Rattle.mdl_script.specs.Worlds.{Player, Scene, World, after_timeout, ask_session, asked_waiting, continuing_settled, first_settled, first_world, going, going_first, line_played, lines_played, most_turns, played, player_at, session_waits, sessions, started, unasked_player}
use Rattle.mdl_script.proofs.SoundLemmas.{IsStaffed, first-session, staffed-going, staffed-started, staffed-timed_out}

-- ---- a statement is played

module _ (line who : ℕ) (program : Program Pause) (world : World) (is : IsScriptSession who) (staffed : IsStaffed world) where
  -- the session that plays it, as far as it comes
  abbrev next : Player
  next = record { session = session_of_pause (outcome_of outcome program world.core).0; line = line }

  pub plays-same : player_at who (played line who program world).world ≡ next
  plays-same = get_or-set_same world.players (who - 1) next (unasked_player who) (subst (λ n. who - 1 < n) (sym staffed.all) (omega (arith, is.0, is.1)))

  -- and the others are where they were
  pub plays-other : (w : ℕ) → IsScriptSession w → w ≢ who → player_at w (played line who program world).world ≡ player_at w world
  plays-other w there apart =
      get_or-set_other world.players (who - 1) (w - 1) next (unasked_player w) (λ e. apart (omega (arith, e, is.0, there.0)))

  -- what is so of this one then, and of each other as it was, is so of each
  pub plays-each : (P : ℕ → Player → Type 0) → P who next → ((w : ℕ) → IsScriptSession w → w ≢ who → P w (player_at w world))
      → (w : ℕ) → IsScriptSession w → P w (player_at w (played line who program world).world)
  plays-each P mine others w there = elim (eqb_tells w who) [
    | inl same ↦ subst (λ k. P k (player_at k (played line who program world).world)) (sym same.1) (subst (P who) (sym plays-same) mine)
    | inr apart ↦ subst (P w) (sym (plays-other w there apart.1)) (others w there apart.1)
  ]

-- ---- a session is asked

-- one thing is told
abbrev pub telling : ℕ → ℕ → News → World → Scene
telling line who news world = record { told = record { line = line; who = who; news = news } ∷ []; world = world }

-- what is so as the patience of a session that waits ends, as one that waits is busy, and as one that doesn't wait starts its
-- statement, is so as a session is asked
pub asked-by : (P : Scene → Type 0) (line : Line) (world : World)
    → P (telling line.number line.session (Ends reply.Ok) (after_timeout line.session world)) → P (telling line.number line.session Busy world)
    → (session_waits world line.session ≡ false → P (started line world)) → P (ask_session line world)
asked-by P line world ends busy starts = by (session_waits world line.session) refl where
  waiting : (statement : Statement) → P (asked_waiting statement line.number line.session world)
  waiting Timeout = ends
  waiting _ = busy

  by : (waits : Bool) → session_waits world line.session ≡ waits
      → P (if waits then asked_waiting line.statement line.number line.session world else started line world)
  by true e = waiting line.statement
  by false e = starts e

-- ---- lines

-- what each line keeps is so after all of them
pub lines-by : (L : Line → Type 0) (P : World → Type 0) → ((line : Line) (world : World) → L line → P world → P (line_played line world).world)
    → (lines : List Line) (world : World) → All L lines → P world → P (lines_played lines world).world
lines-by L P step [] world are so = so
lines-by L P step (line ∷ lines) world are so =
    lines-by L P step lines (line_played line world).world (All-tail L line lines are) (step line world (All-head L line lines are) so)

-- ---- what is kept

-- what is so of a world stays so as a statement starts in a session that doesn't wait, as one whose turn has come goes on, of which only
-- such things are told, and as the patience of one ends
pub record Keeps (I : World → Type 0) (T : Told → Type 0) : Type 0 where
  pub starts : (line : Line) (world : World) → IsScriptSession line.session → session_waits world line.session ≡ false → IsStaffed world → I world
      → I (started line world).world
  pub goes : (who : ℕ) (world : World) → first_settled world ≡ Some who → IsStaffed world → I world → I (going who world).world × All T (going who world).told
  pub ends : (who : ℕ) (world : World) → IsScriptSession who → IsStaffed world → I world → I (after_timeout who world)

-- whatever is told
abbrev pub Anything : Told → Type 0
Anything told = Unit {0}

-- it is so, and the world is staffed
pub record IsKept (I : World → Type 0) (world : World) : Type 0 where
  pub staffed : IsStaffed world
  pub so : I world

module _ (I : World → Type 0) (T : Told → Type 0) (keeps : Keeps I T) where
  pub kept-asked : (line : Line) (world : World) → IsScriptSession line.session → IsKept I world → IsKept I (ask_session line world).world
  kept-asked line world is kept =
      asked-by (λ scene. IsKept I scene.world) line world
      (record { staffed = staffed-timed_out line.session world is kept.staffed; so = keeps.ends line.session world is kept.staffed kept.so }) kept
      (λ e. record { staffed = staffed-started line world is kept.staffed; so = keeps.starts line world is e kept.staffed kept.so })

  -- a scene that leaves the world so, and tells only such things
  abbrev IsKeptBy : Scene → Type 0
  IsKeptBy scene = IsKept I scene.world × All T scene.told

  -- one session goes on, and then more follows
  kept-going : (first : Option ℕ) (world : World) (more : World → Scene) → first_settled world ≡ first → IsKept I world
      → ((after : World) → IsKept I after → IsKeptBy (more after)) → IsKeptBy (going_first first more world)
  kept-going None world more found kept rest = (kept, All-nil T)
  kept-going (Some who) world more found kept rest =
      let gone = keeps.goes who world found kept.staffed kept.so in
      let staffed = staffed-going who world (first-session world who found) kept.staffed in
      let later = rest (going who world).world (record { staffed = staffed; so = gone.0 }) in
      (later.0, All-append T (going who world).told (more (going who world).world).told gone.1 later.1)

  pub kept-settling : (n : ℕ) (world : World) → IsKept I world → IsKeptBy (continuing_settled n world)
  unfolding continuing_settled
  kept-settling zero world kept = (kept, All-nil T)
  kept-settling (suc n) world kept = kept-going (first_settled world) world (continuing_settled n) refl kept (λ after there. kept-settling n after there)

  pub kept-line : (line : Line) (world : World) → IsScriptSession line.session → IsKept I world → IsKept I (line_played line world).world
  kept-line line world is kept = (kept-settling most_turns (ask_session line world).world (kept-asked line world is kept)).0

  pub kept-lines : (n : ℕ) (lines : List Line) (world : World) → All (λ line. IsScriptSession line.session) lines → IsKept I world
      → IsKept I (lines_played (take n lines) world).world
  kept-lines n lines world are kept =
      lines-by (λ line. IsScriptSession line.session) (IsKept I) kept-line (take n lines) world (All-take (λ line. IsScriptSession line.session) n lines are) kept

-- ---- the world at first

-- a session that was asked for nothing yet
pub new-session : (who : ℕ) → IsScriptSession who → player_at who first_world ≡ unasked_player who
unfolding sessions
new-session who session = get_or-map-range_with_len unasked_player 1 most_sessions (who - 1) who (unasked_player who) (omega (arith, session.0, session.1)) (omega (arith, session.0))
