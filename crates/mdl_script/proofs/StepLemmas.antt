-- A session starts a statement or goes on with one: the world after it.
use Rattle.std.proofs.Common.{◌≡◌, ℕ, ◌<◌, ◌≤◌, ◌+◌, ◌-◌, List, length, get_or, set, map, Option, Some, None, false, refl, sym, ap, ◌∙◌, subst, arith}
use Rattle.std.specs.Prelude.{Bool, is_some}
use Rattle.std.proofs.lemmas.List.{map-set}
use Rattle.mdl_calls.specs.Words.{Program, Runs}
use Rattle.mdl_core.specs.CoreJoins.{Joins}
use Rattle.mdl_core.specs.Words.{Core}
use Rattle.mdl_space.specs.CoreMembers.{core_space}
use Rattle.mdl_context.specs.Contexts.{LeavesOthers}
use Rattle.mdl_context.specs.MemoryLaws.{IsSureUnless}
use Rattle.mdl_lines.specs.Sessions.{IsScriptSession}
use Rattle.mdl_key.specs.Words.{most_sessions}
use Rattle.mdl_stmt.specs.declared.progress.Progress.{Progress}
use Rattle.mdl_stmt.specs.declared.progress.Progress.TheVariants.{Waiting, Pending, Done}
use Rattle.mdl_rows.specs.Endings.{Pause}
use Rattle.mdl_stmt.specs.Gets.{paused}
use Rattle.mdl_rows.specs.MemoryLaws.{IsFault, session_of_pause}
use Rattle.mdl_rows.proofs.RowOutcomes.{sure_rows}
use Rattle.mdl_rows.specs.Playing.{going_on}
use Rattle.mdl_rows.specs.Sessions.{Session}
use Rattle.mdl_stmt.specs.Attendance.{AttendsWith}
use Rattle.mdl_stmt.specs.Players.{RunnerView}
use Rattle.mdl_stmt.specs.Stages.{session_of}
use Rattle.mdl_script.specs.declared.play.Play.{Play}
use Rattle.mdl_script.specs.declared.play.Player as kept
use Rattle.mdl_script.specs.Plays.{AreSeated, IsManned, numbered_player, world_of}
use Rattle.mdl_script.specs.Worlds.{Player, Scene, World, came, going, played, player_at, reports_of, session_waits}
use Rattle.mdl_script.proofs.PlayLemmas.{player-at, seated-at, seated-then, waits-at}

-- ---- progress

session-paused : (progress : Progress) (session : Session) → session_of_pause (paused progress session) ≡ session
session-paused (Waiting key mode) session = refl
session-paused Pending session = refl
session-paused (Done reply) session = refl

no-fault : (progress : Progress) (session : Session) → IsFault (paused progress session) → ⊥
no-fault (Waiting key mode) session fault = fault
no-fault Pending session fault = fault
no-fault (Done reply) session fault = fault

told-paused : (progress : Progress) (line who : ℕ) (one other : Session) → reports_of line who (paused progress one) ≡ reports_of line who (paused progress other)
told-paused (Waiting key mode) line who one other = refl
told-paused Pending line who one other = refl
told-paused (Done reply) line who one other = refl

-- ---- one step

-- a session with another runner, after a program of its came so far
abbrev pub after_step : Core → List kept.Player → ℕ → ℕ → RunnerView → Progress → Scene
after_step after players who line runner progress = record {
  told = reports_of line who (paused progress (session_of runner));
  world = record { core = after; players = map numbered_player (set players (who - 1) (record { runner = runner; line = line })) };
}

came-so : (core after : Core) (players : List kept.Player) (who line : ℕ) (runner : RunnerView) (progress : Progress)
    → came line who (paused progress (session_of runner), after) (record { core = core; players = map numbered_player players }) ≡ after_step after players who line runner progress
came-so core after players who line runner progress =
    let session = session-paused progress (session_of runner) in
    rw session (ap (λ ps. let scene : Scene = record { told = reports_of line who (paused progress (session_of runner)); world = record { core = after; players = ps } } in scene)
    (sym (map-set numbered_player players (who - 1) (record { runner = runner; line = line }))))

pub stepped : (core after : Core) (players : List kept.Player) (who line : ℕ) (player d : kept.Player) (runner : RunnerView) (progress : Progress) (program : Session → Program Pause)
    → IsScriptSession who → length players ≡ most_sessions → player ≡ get_or players (who - 1) d → ((session : Session) → IsSureUnless IsFault (program session))
    → Runs Joins core (program (session_of player.runner)) (paused progress (session_of runner)) after
    → let world : World = record { core = core; players = map numbered_player players } in
    played line who (program (player_at who world).session) world ≡ after_step after players who line runner progress
stepped core after players who line player d runner progress program session all same sure run =
    let world : World = record { core = core; players = map numbered_player players } in
    let here : (player_at who world).session ≡ session_of player.runner =
    ap (λ (p : Player). p.session) (player-at core players who d session.0 (subst (λ n. who ≤ n) (sym all) session.1)) ∙ ap (λ (p : kept.Player). session_of p.runner) (sym same) in
    let end = sure (session_of player.runner) core after (paused progress (session_of runner)) run (no-fault progress (session_of runner)) in
    ap (λ s. played line who (program s) world) here ∙ ap (λ o. came line who o world) end ∙ came-so core after players who line runner progress

-- ---- a player

module _ (play : Play) (who n : ℕ) (player d : kept.Player) (manned : IsManned play) (session : IsScriptSession who) (from : n ≡ who)
    (same : player ≡ get_or play.players.items (n - 1) d) where
  inside : who - 1 < length play.players.items
  inside = subst (λ l. who - 1 < l) (sym manned.all) (omega (arith, session.0, session.1))

  here : player ≡ get_or play.players.items (who - 1) d
  here = same ∙ ap (λ m. get_or play.players.items (m - 1) d) from

  -- it is of its session, and attended to
  pub attends-at : (player.runner.context.who ≡ who) × AttendsWith core_space play.space player.runner.context player.runner.cache
  attends-at =
      let at = seated-at play.space 1 (who - 1) play.players.items d manned.seated inside in
      rw here (at.0 ∙ omega (arith, session.0), at.1)

  -- it has something left to do where it waits
  pub work-at : (waits : Bool) → session_waits (world_of play) who ≡ waits → is_some player.runner.work ≡ waits
  work-at waits so = rw here (sym (waits-at play.space play.players.items who d session.0 (subst (λ l. who ≤ l) (sym manned.all) session.1)) ∙ so)

  -- it takes another runner
  pub seated-after : (after : Core) (line : ℕ) (runner : RunnerView) → runner.context.who ≡ player.runner.context.who → AttendsWith core_space after runner.context runner.cache
      → LeavesOthers core_space player.runner.context.who play.space after
      → AreSeated after 1 (set play.players.items (n - 1) (record { runner = runner; line = line }))
  seated-after after line runner whose attends leaves =
      let counted : who ≡ 1 + (who - 1) = omega (arith, session.0) in
      let me = attends-at.0 ∙ counted in
      rw from (seated-then play.space after 1 (who - 1) play.players.items (record { runner = runner; line = line }) manned.seated inside
      (whose ∙ me) attends (subst (λ w. LeavesOthers core_space w play.space after) me leaves))

  -- and a program of its comes so far
  pub came-at : (after : Core) (line : ℕ) (runner : RunnerView) (progress : Progress) (program : Session → Program Pause)
      → ((s : Session) → IsSureUnless IsFault (program s))
      → Runs Joins play.space (program (session_of player.runner)) (paused progress (session_of runner)) after
      → played line who (program (player_at who (world_of play)).session) (world_of play) ≡ after_step after play.players.items who line runner progress
  came-at after line runner progress program sure run =
      stepped play.space after play.players.items who line player d runner progress program session manned.all here sure run

  pub left-at : (after : Core) (line : ℕ) (runner : RunnerView) (progress : Progress) (program : Session → Program Pause)
      → ((s : Session) → IsSureUnless IsFault (program s))
      → Runs Joins play.space (program (session_of player.runner)) (paused progress (session_of runner)) after
      → let world : World = record { core = after; players = map numbered_player (set play.players.items (n - 1) (record { runner = runner; line = line })) } in
      world ≡ (played line who (program (player_at who (world_of play)).session) (world_of play)).world
  left-at after line runner progress program sure run =
      rw from (sym (ap (λ (scene : Scene). scene.world) (came-at after line runner progress program sure run)))

  pub told-at : (after : Core) (line : ℕ) (runner : RunnerView) (progress : Progress) (program : Session → Program Pause)
      → ((s : Session) → IsSureUnless IsFault (program s))
      → Runs Joins play.space (program (session_of player.runner)) (paused progress (session_of runner)) after
      → reports_of line who (paused progress (session_of runner)) ≡ (played line who (program (player_at who (world_of play)).session) (world_of play)).told
  told-at after line runner progress program sure run = sym (ap (λ (scene : Scene). scene.told) (came-at after line runner progress program sure run))

  line-at : player.line ≡ (player_at who (world_of play)).line
  line-at = rw here (sym (ap (λ (p : Player). p.line) (player-at play.space play.players.items who d session.0 (subst (λ l. who ≤ l) (sym manned.all) session.1))))

  -- where it goes on with its statement
  pub left-going : (after : Core) (runner : RunnerView) (progress : Progress) → Runs Joins play.space (going_on (session_of player.runner)) (paused progress (session_of runner)) after
      → let world : World = record { core = after; players = map numbered_player (set play.players.items (n - 1) (record { runner = runner; line = player.line })) } in
      world ≡ (going who (world_of play)).world
  left-going after runner progress run =
      left-at after player.line runner progress (λ s. going_on s) (λ s. (sure_rows s).2) run
      ∙ ap (λ line. (played line who (going_on (player_at who (world_of play)).session) (world_of play)).world) line-at

  pub told-going : (after : Core) (runner : RunnerView) (progress : Progress) → Runs Joins play.space (going_on (session_of player.runner)) (paused progress (session_of runner)) after
      → reports_of player.line who (paused progress (session_of runner)) ≡ (going who (world_of play)).told
  told-going after runner progress run =
      told-at after player.line runner progress (λ s. going_on s) (λ s. (sure_rows s).2) run
      ∙ ap (λ line. (played line who (going_on (player_at who (world_of play)).session) (world_of play)).told) line-at

-- nothing is left
pub none-left : {A : Type 0} (left : Option A) → is_some left ≡ false → left ≡ None
none-left None none = refl
none-left (Some x) none = cc
