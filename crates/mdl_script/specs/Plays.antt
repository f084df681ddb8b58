-- A lock space and the sessions of a script as the code keeps them, and the world that they represent.
use Rattle.std.specs.Prelude.{◌≡◌, ℕ, ◌+◌, List, [], ◌∷◌, length, map, nat_lt, None}
use Rattle.std.specs.List.{position_or_len}
use Rattle.mdl_key.specs.Words.{most_sessions}
use Rattle.mdl_space.specs.CoreMembers.{core_space}
use Rattle.mdl_core.specs.Cores.{Core}
use Rattle.mdl_stmt.specs.Attendance.{AttendsWith}
use Rattle.mdl_stmt.specs.Stages.{session_of}
use Rattle.mdl_rows.specs.States.{at_first}
use Rattle.mdl_script.specs.declared.play.Play.{Play}
use Rattle.mdl_script.specs.declared.play.Player as kept
use Rattle.mdl_script.specs.Worlds.{Player, World, waiting_in}

-- the session of a player, with the number of its line
abbrev pub numbered_player : kept.Player → Player
numbered_player player = record { session = session_of player.runner; line = player.line }

abbrev pub world_of : Play → World
world_of play = record { core = play.space; players = map numbered_player play.players.items }

-- how many definitions the cache of each session keeps
abbrev pub default_cache : ℕ
default_cache = 64

-- a session that has not been asked for anything, with an empty cache
abbrev pub new_player : ℕ → kept.Player
new_player who = record {
  runner = record {
    context = record { who = who; kept = []; known = []; wait = None };
    state = at_first;
    work = None;
    cache = record { kept = []; capacity = default_cache };
  };
  line = 0;
}

-- these players have the sessions from this number on, and the space agrees with what each of them keeps, its cache included
abbrev pub AreSeated : Core → ℕ → List kept.Player → Type 0
AreSeated core who [] = Unit {0}
AreSeated core who (player ∷ players) =
    (player.runner.context.who ≡ who) × AttendsWith core_space core player.runner.context player.runner.cache × AreSeated core (who + 1) players

-- where a session belongs among others in rising order: at the first greater one, or at the end
abbrev pub insertion_index : ℕ → List ℕ → ℕ
insertion_index who others = position_or_len (λ other. nat_lt who other) others

-- the play has all sessions, and its list of waiting sessions is right
pub record IsManned (play : Play) : Type 0 where
  pub all : length play.players.items ≡ most_sessions
  pub seated : AreSeated play.space 1 play.players.items
  pub waiting : play.waiting.items ≡ waiting_in (world_of play)
