-- Sessions over one lock space, that of one thread.
use Rattle.std.specs.Prelude.{◌≡◌, ℕ, ◌+◌, List, [], ◌∷◌, None}
use Rattle.mdl_core.specs.Words.{Core}
use Rattle.mdl_space.specs.CoreMembers.{core_space}
use Rattle.mdl_stmt.specs.Attendance.{AttendsWith}
use Rattle.mdl_stmt.specs.KeptStages.{OwnedView}
use Rattle.mdl_rows.specs.States.{at_first}

-- how many definitions each session keeps
abbrev pub cache_size : ℕ
cache_size = 64

-- a session that has done nothing
abbrev pub new_session : ℕ → OwnedView
new_session who = record {
  context = record { who = who; kept = []; known = []; wait = None };
  state = at_first;
  work = None;
  cache = record { kept = []; capacity = cache_size };
}

-- these are the sessions from this number on, and the space serves each of them
abbrev pub AreServed : Core → ℕ → List OwnedView → Type 0
AreServed space who [] = Unit {0}
AreServed space who (session ∷ sessions) =
    (session.context.who ≡ who) × AttendsWith core_space space session.context session.cache × AreServed space (who + 1) sessions
