-- The sessions of a play, and the world that they are.
use Rattle.std.proofs.Common.{◌≡◌, ◌≢◌, ℕ, zero, suc, ◌<◌, ◌≤◌, ◌+◌, ◌-◌, true, false, List, [], ◌∷◌, length, get_or, set, map, filter, Some, None, refl, sym, ap, ◌∙◌, subst, arith, ◌⊎◌, inl, inr}
use Rattle.std.specs.Prelude.{insert, is_some, not, ◌==◌}
use Rattle.std.specs.List.{All}
use Rattle.std.proofs.Math.Dec.{eqb}
use Rattle.std.proofs.lemmas.Bool.Decides.{eqb_tells}
use Rattle.std.proofs.lemmas.List.{get_or-map, get_or-set_other}
use Rattle.mdl_calls.specs.Words.{Answer, Call, outcome_of}
use Rattle.mdl_key.specs.Words.{most_sessions}
use Rattle.mdl_core.specs.CoreCalls.{outcome}
use Rattle.mdl_core.specs.Words.{Core, SpeaksFor}
use Rattle.mdl_space.specs.CoreMembers.{core_space}
use Rattle.mdl_core.specs.CoreJoins.{Joins}
use Rattle.mdl_core.proofs.CallLaws.{core-keeps}
use Rattle.mdl_core.proofs.CoreSound.{calls_keep-sound}
use Rattle.mdl_context.specs.Contexts.{LeavesOthers}
use Rattle.mdl_context.proofs.AttendLemmas.{attends-same}
use Rattle.mdl_lines.specs.Sessions.{IsScriptSession}
use Rattle.mdl_rows.specs.Endings.{Pause}
use Rattle.mdl_rows.specs.Playing.{going_on, starting}
use Rattle.mdl_stmt.specs.Attendance.{AttendsWith}
use Rattle.mdl_stmt.specs.Players.{RunnerView}
use Rattle.mdl_syntax.specs.declared.script.Line.{Line}
use Rattle.mdl_work.proofs.WorkLemmas.{attends-with}
use Rattle.mdl_script.specs.declared.play.Play.{Play}
use Rattle.mdl_script.specs.declared.play.Player as kept
use Rattle.mdl_script.specs.Plays.{AreSeated, IsManned, insertion_index, numbered_player, world_of}
use Rattle.mdl_script.specs.Worlds.{Player, World, came, going, player_at, session_waits, sessions, started, unasked_player, waiting_in}
use Rattle.mdl_script.proofs.ListLemmas.{All-filter_range, filter-noted, filter-same, filter-struck}

-- ---- sessions in their seats

-- each of them is of its session, and attended to
pub seated-at : (core : Core) (first i : ℕ) (xs : List kept.Player) (d : kept.Player) → AreSeated core first xs → i < length xs
    → ((get_or xs i d).runner.context.who ≡ first + i) × AttendsWith core_space core (get_or xs i d).runner.context (get_or xs i d).runner.cache
seated-at core first i [] d seated inside = absurd (omega arith)
seated-at core first zero (x ∷ xs) d seated inside = (seated.0 ∙ omega arith, seated.1)
seated-at core first (suc i) (x ∷ xs) d seated inside =
    let rest = seated-at core (first + 1) i xs d seated.2 (omega arith) in (rest.0 ∙ omega arith, rest.1)

-- one of the others has made a call
still-attended : (before after : Core) (x : RunnerView) (who : ℕ) → LeavesOthers core_space who before after → x.context.who ≢ who
    → AttendsWith core_space before x.context x.cache → AttendsWith core_space after x.context x.cache
still-attended before after x who leaves other with =
    let same = leaves.0 x.context.who other with.attends.speaks in
    attends-with core_space x.context x.cache before after (attends-same before after x.context with.attends same.2 same.0 same.1) leaves.1 with

-- later sessions
still-seated : (before after : Core) (first who : ℕ) (xs : List kept.Player) → LeavesOthers core_space who before after → who < first
    → AreSeated before first xs → AreSeated after first xs
still-seated before after first who [] leaves later seated = tt
still-seated before after first who (x ∷ xs) leaves later seated =
    (seated.0, still-attended before after x.runner who leaves (λ e. omega (arith, seated.0, e)) seated.1, still-seated before after (first + 1) who xs leaves (omega arith) seated.2)

-- one of them has made calls
pub seated-then : (before after : Core) (first i : ℕ) (xs : List kept.Player) (x : kept.Player) → AreSeated before first xs → i < length xs
    → x.runner.context.who ≡ first + i → AttendsWith core_space after x.runner.context x.runner.cache → LeavesOthers core_space (first + i) before after
    → AreSeated after first (set xs i x)
seated-then before after first i [] x seated inside who attends leaves = absurd (omega arith)
seated-then before after first zero (y ∷ ys) x seated inside who attends leaves =
    (who ∙ omega arith, attends, still-seated before after (first + 1) (first + 0) ys leaves (omega arith) seated.2)
seated-then before after first (suc i) (y ∷ ys) x seated inside who attends leaves =
    let same : first + 1 + i ≡ first + suc i = omega arith in (
      seated.0,
      still-attended before after y.runner (first + suc i) leaves (λ e. omega (arith, seated.0, e)) seated.1,
      seated-then before after (first + 1) i ys x seated.2 (omega arith) (who ∙ sym same) attends
          (subst (λ n. LeavesOthers core_space n before after) (sym same) leaves),
    )

-- the space speaks for all
abbrev pub SpeakForAll : Core → Type 0
SpeakForAll core = (who : ℕ) → 1 ≤ who → who ≤ most_sessions → SpeaksFor core who

-- it goes on to
pub still-speaks : (a b : Core) (call : Call) (answer : Answer) → SpeakForAll a → Joins a call answer b → SpeakForAll b
still-speaks a b call answer speaks step who least most = core-keeps calls_keep-sound a b call answer who (speaks who least most) step

-- ---- the world that they are

-- a player of the world
pub player-at : (core : Core) (players : List kept.Player) (who : ℕ) (d : kept.Player) → 1 ≤ who → who ≤ length players
    → player_at who (record { core = core; players = map numbered_player players }) ≡ numbered_player (get_or players (who - 1) d)
player-at core players who d least most = get_or-map numbered_player players (who - 1) d (unasked_player who) (omega (arith, least, most))

is_some-left : (player : kept.Player) → is_some (numbered_player player).session.left ≡ is_some player.runner.work
is_some-left player = elim player.runner.work as (λ work. is_some (numbered_player (record player { runner = record player.runner { work = work } })).session.left ≡ is_some work) [ None ↦ refl | Some work ↦ refl ]

-- it waits where its runner has something left to do
pub waits-at : (core : Core) (players : List kept.Player) (who : ℕ) (d : kept.Player) → 1 ≤ who → who ≤ length players
    → session_waits (record { core = core; players = map numbered_player players }) who ≡ is_some (get_or players (who - 1) d).runner.work
waits-at core players who d least most = ap (λ (p : Player). is_some p.session.left) (player-at core players who d least most) ∙ is_some-left (get_or players (who - 1) d)

-- another player, and whether any other session waits
waits-other : (core after : Core) (players : List Player) (who w : ℕ) (x : Player) → 1 ≤ who → 1 ≤ w → w ≢ who
    → session_waits (record { core = after; players = set players (who - 1) x }) w ≡ session_waits (record { core = core; players = players }) w
waits-other core after players who w x least positive other =
    ap (λ (p : Player). is_some p.session.left) (get_or-set_other players (who - 1) (w - 1) x (unasked_player w) (λ e. other (omega arith)))

-- a statement of a session came so far: whether any other session waits is as before
others-wait : (line who : ℕ) (so : Pause × Core) (world : World) (w : ℕ) → 1 ≤ who → 1 ≤ w → w ≢ who → session_waits (came line who so world).world w ≡ session_waits world w
others-wait line who (pause, core) world w least positive other = waits-other world.core core world.players who w _ least positive other

-- it waits as before: the same wait
pub waiting-same : (line who : ℕ) (so : Pause × Core) (world after : World) → IsScriptSession who → after ≡ (came line who so world).world
    → session_waits after who ≡ session_waits world who → waiting_in after ≡ waiting_in world
unfolding sessions
waiting-same line who so world after session left alike = filter-same (session_waits after) (session_waits world) 1 most_sessions (λ w least most. by w least (eqb_tells w who)) where
  by : (w : ℕ) → 1 ≤ w → ((eqb w who ≡ true) × (w ≡ who)) ⊎ ((eqb w who ≡ false) × (w ≢ who)) → session_waits after w ≡ session_waits world w
  by w least (inl same) = subst (λ k. session_waits after k ≡ session_waits world k) (sym same.1) alike
  by w least (inr other) = ap (λ v. session_waits v w) left ∙ others-wait line who so world w session.0 least other.1

-- it begins to wait: it is noted in its place
pub waiting-noted : (line who : ℕ) (so : Pause × Core) (world after : World) → IsScriptSession who → after ≡ (came line who so world).world
    → session_waits world who ≡ false → session_waits after who ≡ true → waiting_in after ≡ insert (waiting_in world) (insertion_index who (waiting_in world)) who
unfolding sessions
waiting-noted line who so world after session left before now =
    filter-noted (session_waits world) (session_waits after) who 1 most_sessions (λ w least other. ap (λ v. session_waits v w) left ∙ others-wait line who so world w session.0 least other)
    before now session.0 (omega (arith, session.1))

-- it waits no more: it is struck
pub waiting-struck : (line who : ℕ) (so : Pause × Core) (world after : World) → IsScriptSession who → after ≡ (came line who so world).world
    → session_waits after who ≡ false → waiting_in after ≡ filter (λ w. not (w == who)) (waiting_in world)
unfolding sessions
waiting-struck line who so world after session left now =
    filter-struck (session_waits world) (session_waits after) who 1 most_sessions (λ w least other. ap (λ v. session_waits v w) left ∙ others-wait line who so world w session.0 least other) now

-- whoever waits is one of the sessions
pub waiting-sessions : (P : ℕ → Type 0) (world : World) → ((who : ℕ) → IsScriptSession who → session_waits world who ≡ true → P who) → All P (waiting_in world)
unfolding sessions
waiting-sessions P world each = All-filter_range P (session_waits world) 1 most_sessions (λ k least most waits. each k (least, omega arith) waits)

-- ---- a play after a turn of a session

-- the same space and the same players are the same world
world-same : (core after : Core) (players then_ : List kept.Player) → after ≡ core → then_ ≡ players
    → let old : World = record { core = core; players = map numbered_player players } in let new : World = record { core = after; players = map numbered_player then_ } in new ≡ old
world-same core after players then_ cores same = rw (cores, same) refl

-- only what is noted has changed, and that tells who waits
pub manned-again : (play then_ : Play) → then_.space ≡ play.space → then_.players.items ≡ play.players.items → length play.players.items ≡ most_sessions
    → AreSeated play.space 1 play.players.items → then_.waiting.items ≡ waiting_in (world_of play) → IsManned then_
manned-again play then_ spaces players all seated waiting = record {
  all = ap length players ∙ all;
  seated = rw (spaces, players) seated;
  waiting = waiting ∙ ap waiting_in (sym (world-same play.space then_.space play.players.items then_.players.items spaces players));
}

-- a session began to wait with its statement
pub noted-starting : (line : Line) (world after : World) → IsScriptSession line.session → after ≡ (started line world).world
    → session_waits world line.session ≡ false → session_waits after line.session ≡ true
    → insert (waiting_in world) (insertion_index line.session (waiting_in world)) line.session ≡ waiting_in after
noted-starting line world after session left before now =
    sym (waiting-noted line.number line.session (outcome_of outcome (starting line.statement (player_at line.session world).session) world.core) world after session left before now)

-- a session went on, and waits no more
pub struck-going : (who : ℕ) (world after : World) → IsScriptSession who → after ≡ (going who world).world → session_waits after who ≡ false
    → filter (λ w. not (w == who)) (waiting_in world) ≡ waiting_in after
struck-going who world after session left now =
    sym (waiting-struck (player_at who world).line who (outcome_of outcome (going_on (player_at who world).session) world.core) world after session left now)
