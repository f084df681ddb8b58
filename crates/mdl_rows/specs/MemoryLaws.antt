-- What happens to statements if memory runs out, for which session they make calls, which places the session knows after
-- them, and their results over the space of one thread. The laws hold for all rows, and so for each statement.
use Rattle.std.specs.Prelude.{◌≡◌, ℕ, IsSome}
use Rattle.std.specs.Option.{IfSome}
use Rattle.mdl_calls.specs.Words.{Each, EachCall, IsFaithful, Program, Runs, outcome_of}
use Rattle.mdl_core.specs.CoreCalls.{outcome}
use Rattle.mdl_core.specs.CoreJoins.{Joins, SpeaksFor}
use Rattle.mdl_core.specs.Cores.{Core}
use Rattle.mdl_core.specs.RunLaws.{IsMadeFor}
use Rattle.mdl_core.specs.Ties.{IsSoundCore}
use Rattle.mdl_syntax.specs.declared.statement.Statement.{Statement}
use Rattle.mdl_context.specs.declared.request.Mark.{Mark}
use Rattle.mdl_context.specs.Contexts.{ContextView, IsAwaited}
use Rattle.mdl_context.specs.MemoryLaws.{IsSureUnless}
use Rattle.mdl_context.specs.Tidying.{IsTidy}
use Rattle.mdl_rows.specs.declared.reply.Reply.{Reply}
use Rattle.mdl_rows.specs.Endings.{Pause, Ends, Begins_to_wait, Waits_on, Faults}
use Rattle.mdl_rows.specs.Playing.{play, starting, going_on}
use Rattle.mdl_rows.specs.Rows.{Row}
use Rattle.mdl_rows.specs.Sessions.{Session}

-- a statement has ended because memory ran out
abbrev pub IsFault : Pause → Type 0
IsFault (Faults session) = Unit {0}
IsFault _ = ⊥

-- the session once a statement has come this far
abbrev pub session_of_pause : Pause → Session
session_of_pause (Ends reply session) = session
session_of_pause (Begins_to_wait key mode session) = session
session_of_pause (Waits_on session) = session
session_of_pause (Faults session) = session

-- a property holds of each program of a session's statements: of each row that is played, of a statement that starts, and of one
-- that continues
abbrev pub EachPlay : (Session → Program Pause → Type 0) → Type 0
EachPlay P =
    (session : Session) →
    ((row : Row Reply) (mark : Mark) → P session (play row mark session))
    × ((statement : Statement) → P session (starting statement session))
    × P session (going_on session)

-- a statement that runs out of memory ends and reports that, and nothing else
abbrev pub StatementsTellOfWant : Type 0
StatementsTellOfWant = EachPlay (λ session program. IsFaithful IsFault program)

-- all calls of a statement are made for its session or for no session. Those that give up a pin are its context's alone
abbrev pub StatementsCallForTheirSession : Type 0
StatementsCallForTheirSession = EachPlay (λ session program. EachCall (IsMadeFor session.context.who) program)

-- a session keeps its number, however far its statements come
abbrev pub SessionsKeepTheirNumber : Type 0
SessionsKeepTheirNumber = EachPlay (λ session program. Each (λ pause. (session_of_pause pause).context.who ≡ session.context.who) program)

-- a context is in order: it has something at each place that it knows, and if it waits to upgrade a ticket, it keeps that
abbrev pub IsInOrder : ContextView → Type 0
IsInOrder context = IsTidy context × IfSome context.wait (IsAwaited context.known context.kept)

-- once a statement has ended, its session's context knows only the places where it has something. The session has been told to
-- give up its pins of all others that the context knew. A statement that waits leaves it so if the context was in order before
abbrev pub LeavesTidy : Session → Pause → Type 0
LeavesTidy before (Ends reply session) = IsTidy session.context
LeavesTidy before (Faults session) = IsTidy session.context
LeavesTidy before (Begins_to_wait key mode session) = IsInOrder before.context → IsTidy session.context
LeavesTidy before (Waits_on session) = IsInOrder before.context → IsTidy session.context

-- this holds for each row that is played, for a statement that starts, and for one that continues after its wait, whatever they request and
-- whatever is refused
abbrev pub StatementsEndTidy : Type 0
StatementsEndTidy =
    (session : Session) →
    ((row : Row Reply) (mark : Mark) → Each (LeavesTidy session) (play row mark session))
    × ((statement : Statement) → Each (LeavesTidy session) (starting statement session))
    × (IsSome session.left → Each (LeavesTidy session) (going_on session))

-- over the space of one thread, how far a statement comes, its session and the space after it are the outcome, unless memory ran
-- out
abbrev pub SureStatements : Type 0
SureStatements = EachPlay (λ session program. IsSureUnless IsFault program)

-- if the space of one thread speaks for a session, the outcome of a program of the session is a run. The space is sound after
-- it, and still speaks for each session for which it spoke before
abbrev pub KeepsSpaceSound : Session → Program Pause → Type 0
KeepsSpaceSound session program =
    (a : Core) → SpeaksFor a session.context.who →
    let end = outcome_of outcome program a in
    Runs Joins a program end.0 end.1 × IsSoundCore end.1 × ((who : ℕ) → SpeaksFor a who → SpeaksFor end.1 who)

-- this holds for each program of a session's statements
abbrev pub StatementsKeepSpaceSound : Type 0
StatementsKeepSpaceSound = EachPlay KeepsSpaceSound
