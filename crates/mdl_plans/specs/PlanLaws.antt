-- Laws of plans.
use Rattle.std.specs.Prelude.{◌≡◌}
use Rattle.mdl_context.specs.Contexts.{current_mark}
use Rattle.mdl_syntax.specs.declared.statement.Statement.{Statement}
use Rattle.mdl_rows.specs.Playing.{going_on, play, starting}
use Rattle.mdl_rows.specs.Sessions.{Session}
use Rattle.mdl_rows.specs.States.{State}
use Rattle.mdl_rows.specs.Statements.{row_of}
use Rattle.mdl_plans.specs.Seen.{AreAlike, seen, session_seen}
use Rattle.mdl_plans.specs.Steps.{planned}

-- the plan of each statement means the statement's row, in a session of any state
abbrev pub PlansAreStatements : Type 0
PlansAreStatements = (at : Statement) (state : State) → seen state (planned at) ≡ seen state (row_of at)

-- a session that starts a statement by its plan makes the calls that the statement makes, and comes as far
abbrev pub PlansStartAlike : Type 0
PlansStartAlike = (at : Statement) (session : Session) → AreAlike (play (planned at) (current_mark session.context.kept) session) (starting at session)

-- two sessions that have come as far go on alike
abbrev pub SessionsGoOnAlike : Type 0
SessionsGoOnAlike = (first second : Session) → session_seen first ≡ session_seen second → AreAlike (going_on first) (going_on second)
