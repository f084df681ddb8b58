-- How a script is played in one thread: its lines in order, and after each line the turns of the sessions whose waits are settled. The order is this
-- project's own.
use Rattle.std.specs.Prelude.{ℕ, zero, suc, ◌-◌, ◌*◌, Bool, List, [], ◌∷◌, ◌++◌, codes, map, filter, find, slice_index_or, slice_set, Option, Some, None, is_some, if◌then◌else◌}
use Rattle.std.specs.List.{range_with_len}
use Rattle.mdl_key.specs.declared.mode.Mode.TheVariants.{X}
use Rattle.mdl_key.specs.Keys.{KeyName, schema_key}
use Rattle.mdl_key.specs.Words.{most_places, most_sessions}
use Rattle.mdl_defs.specs.declared.change.Change.TheVariants.{Create}
use Rattle.mdl_defs.specs.declared.definition.Definition.TheVariants.{Schema}
use Rattle.mdl_calls.specs.Words.{Answer, At_place, Granted, Resolve, Try_now, Change_definition, Release, Settle_timeout, Unpin, Program, Give, Ask, outcome_of}
use Rattle.mdl_core.specs.CoreCalls.{has_settled, outcome}
use Rattle.mdl_core.specs.Cores.{Core, empty_core}
use Rattle.mdl_syntax.specs.declared.script.Line.{Line}
use Rattle.mdl_syntax.specs.declared.statement.Statement.{Statement}
use Rattle.mdl_syntax.specs.declared.statement.Statement.TheVariants.{Timeout}
use Rattle.mdl_rows.specs.declared.reply.Reply.TheVariants as reply
use Rattle.mdl_rows.specs.Endings.{Pause}
use Rattle.mdl_rows.specs.Endings as pause
use Rattle.mdl_rows.specs.MemoryLaws.{session_of_pause}
use Rattle.mdl_rows.specs.Playing.{going_on, starting}
use Rattle.mdl_rows.specs.Sessions.{Session}
use Rattle.mdl_rows.specs.States.{at_first}
pub use Rattle.mdl_work.specs.Works.{most_waits}
use Rattle.mdl_script.specs.declared.told.News.TheVariants.{Ends, Waits, Busy}
use Rattle.mdl_script.specs.declared.told.Told.{Told}

-- a session, and the number of the line of its last statement
pub record Player : Type 0 where
  pub session : Session
  pub line : ℕ

-- the lock space, and the players from session 1 on
pub record World : Type 0 where
  pub core : Core
  pub players : List Player

-- what becomes of lines, and the world that is left
pub record Scene : Type 0 where
  pub told : List Told
  pub world : World

-- a scene in which nothing is reported
abbrev pub unreported : World → Scene
unreported world = record { told = []; world = world }

infixl 20 ◌and_then◌
-- a scene, and then what follows in its world
abbrev pub ◌and_then◌ : Scene → (World → Scene) → Scene
scene and_then next = record { told = scene.told ++ (next scene.world).told; world = (next scene.world).world }

-- ---- the world at first

-- all sessions
unfoldable pub sessions : List ℕ
sessions = range_with_len 1 most_sessions

-- a session that has not been asked for anything
abbrev pub unasked_player : ℕ → Player
unasked_player who = record { session = record { context = record { who = who; kept = []; known = []; wait = None }; state = at_first; left = None }; line = 0 }

-- session 1 creates the schema at a place under its lock, releases the lock, and gives up its pin of the place
abbrev pub create_first_schema : ℕ → Answer → Program (Unit {0})
create_first_schema place (Granted id) =
    Ask (Change_definition 1 id (Create Schema)) (λ _. Ask (Release 1 id) (λ _. Ask (Unpin 1 place) (λ _. Give tt)))
create_first_schema place _ = Give tt

-- session 1 locks the schema at its place, and creates it
abbrev pub create_at : Answer → Program (Unit {0})
create_at (At_place place) = Ask (Try_now 1 place X) (create_first_schema place)
create_at _ = Give tt

abbrev pub creating : KeyName → Program (Unit {0})
creating schema = Ask (Resolve 1 schema) create_at

-- a space with the most places and sessions that there can be, in which the schema `test` was created and nothing else was done. No session has
-- anything there, or pins a place
abbrev pub first_core : Core
first_core = (outcome_of outcome (creating (schema_key (codes "test"))) (empty_core most_places most_sessions)).1

abbrev pub first_world : World
first_world = record { core = first_core; players = map unasked_player sessions }

-- ---- statements

abbrev pub player_at : ℕ → World → Player
player_at who world = slice_index_or world.players (who - 1) (unasked_player who)

-- whether a session waits
abbrev pub session_waits : World → ℕ → Bool
session_waits world who = is_some (player_at who world).session.left

-- the sessions that wait, in rising order
abbrev pub waiting_in : World → List ℕ
waiting_in world = filter (session_waits world) sessions

-- what is reported of a statement that came so far. Nothing is, if it still waits or if memory ran out, which ends the whole script
abbrev pub reports_of : ℕ → ℕ → Pause → List Told
reports_of line who (pause.Ends reply _) = record { line = line; who = who; news = Ends reply } ∷ []
reports_of line who (pause.Begins_to_wait key mode _) = record { line = line; who = who; news = Waits key mode } ∷ []
reports_of line who (pause.Waits_on _) = []
reports_of line who (pause.Faults _) = []

-- the statement of a session, asked by this line, came so far
abbrev pub came : ℕ → ℕ → Pause × Core → World → Scene
came line who (pause, core) world = record {
  told = reports_of line who pause;
  world = record { core = core; players = slice_set world.players (who - 1) (record { session = session_of_pause pause; line = line }) };
}

-- a session plays the statement of a line
abbrev pub played : ℕ → ℕ → Program Pause → World → Scene
played line who program world = came line who (outcome_of outcome program world.core) world

-- ---- settling

-- the waiting session with the least number whose wait is settled
abbrev pub first_settled : World → Option ℕ
first_settled world = find (has_settled world.core) (waiting_in world)

-- a session continues its statement
abbrev pub going : ℕ → World → Scene
going who world = let player = player_at who world in played player.line who (going_on player.session) world

-- a turn: the session continues, if there is one
abbrev pub turn_of : Option ℕ → World → Scene
turn_of None world = unreported world
turn_of (Some who) world = going who world

-- the session continues, if there is one, and then more follows
abbrev pub going_first : Option ℕ → (World → Scene) → World → Scene
going_first None more world = unreported world
going_first (Some who) more world = going who world and_then more

-- at most `turns` times, the session with the least number whose wait is settled continues
unfoldable pub continuing_settled : ℕ → World → Scene
continuing_settled zero world = unreported world
continuing_settled (suc turns) world = going_first (first_settled world) (continuing_settled turns) world

-- the most turns that there can be: with each, the statement of its session ends, or has one lock less to wait for, and while no new line is
-- played no other session begins to wait
abbrev pub most_turns : ℕ
most_turns = most_sessions * most_waits

-- ---- lines

-- a session's wait times out
abbrev pub after_timeout : ℕ → World → World
after_timeout who world = record world { core = (outcome (Settle_timeout who) world.core).1 }

-- a session is asked while it waits: `TIMEOUT` makes its wait time out, and any other statement finds it busy
abbrev pub asked_waiting : Statement → ℕ → ℕ → World → Scene
asked_waiting Timeout line who world = record { told = record { line = line; who = who; news = Ends reply.Ok } ∷ []; world = after_timeout who world }
asked_waiting _ line who world = record { told = record { line = line; who = who; news = Busy } ∷ []; world = world }

-- a session starts the statement of a line
abbrev pub started : Line → World → Scene
started line world = played line.number line.session (starting line.statement (player_at line.session world).session) world

-- the session of a line is asked for its statement
abbrev pub ask_session : Line → World → Scene
ask_session line world =
    if session_waits world line.session then asked_waiting line.statement line.number line.session world else started line world

-- a line is played, and then the sessions continue whose waits are settled
abbrev pub line_played : Line → World → Scene
line_played line world = ask_session line world and_then continuing_settled most_turns

-- lines are played in order
abbrev pub lines_played : List Line → World → Scene
lines_played [] world = unreported world
lines_played (line ∷ lines) world = line_played line world and_then lines_played lines

-- a script is played, in the first world
abbrev pub script_played : List Line → Scene
script_played lines = lines_played lines first_world
