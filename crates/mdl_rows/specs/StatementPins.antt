-- What a session pins once it has run a statement, over any lock space: no more than its context needs. A pin is a session's claim that a place keeps its key.
-- In a space that gives places anew, a pin that nothing needs takes room from all sessions.
use Rattle.std.specs.Prelude.{◌≡◌, None, IsSome}
use Rattle.mdl_calls.specs.declared.lock_space.LockSpace.{Ghosts}
use Rattle.mdl_calls.specs.Words.{Program, Runs}
use Rattle.mdl_syntax.specs.declared.statement.Statement.{Statement}
use Rattle.mdl_context.specs.declared.request.Mark.{Mark}
use Rattle.mdl_context.specs.Contexts.{Attends, ContextView}
use Rattle.mdl_context.specs.Tidying.{PinsJustNeeded}
use Rattle.mdl_rows.specs.declared.reply.Reply.{Reply}
use Rattle.mdl_rows.specs.Endings.{Pause, Ends, Begins_to_wait, Waits_on, Faults}
use Rattle.mdl_rows.specs.Keepings.{going_on_kept, play_kept, starting_kept}
use Rattle.mdl_rows.specs.MemoryLaws.{session_of_pause}
use Rattle.mdl_rows.specs.Playing.{going_on, play, starting}
use Rattle.mdl_rows.specs.Rows.{Row}
use Rattle.mdl_rows.specs.Sessions.{Session}

-- a context attends to its session, which pins only places where the context has something, and owes no reschedule. So nothing else of the same session, such
-- as another context, may have left a pin
pub record HasNoSparePin {S : Type 0} (members : Ghosts S) (space : S) (context : ContextView) : Type 0 where
  pub attends : Attends members space context
  pub just : PinsJustNeeded members space context

-- the session is ready for what follows: it has no wait once its statement has ended, so that it can start another one, and something is left of a statement
-- that waits, so that it can continue
abbrev pub IsReadyForMore : Pause → Type 0
IsReadyForMore (Ends reply session) = session.context.wait ≡ None
IsReadyForMore (Begins_to_wait key mode session) = IsSome session.left
IsReadyForMore (Waits_on session) = IsSome session.left
IsReadyForMore (Faults session) = session.context.wait ≡ None

-- no run of a session's program leaves a pin behind that its context doesn't need, whatever the lock space answered and however far the statement came
abbrev pub LeavesNoSparePin : {S : Type 0} → Ghosts S → Session → Program Pause → Type 0
LeavesNoSparePin {S} members session program =
    (a b : S) (pause : Pause) → HasNoSparePin members a session.context → Runs members.joins a program pause b
    → HasNoSparePin members b (session_of_pause pause).context × IsReadyForMore pause

-- that is so of each row and each statement of a session that doesn't wait, and of each statement that continues after its wait, whether what is left of a
-- waiting statement is copied or not
abbrev pub StatementsLeaveNoPin : {S : Type 0} → Ghosts S → Type 0
StatementsLeaveNoPin members =
    (session : Session) →
    (session.context.wait ≡ None →
    ((row : Row Reply) (mark : Mark) → LeavesNoSparePin members session (play row mark session) × LeavesNoSparePin members session (play_kept row mark session))
    × ((statement : Statement) → LeavesNoSparePin members session (starting statement session) × LeavesNoSparePin members session (starting_kept statement session)))
    × (IsSome session.left → LeavesNoSparePin members session (going_on session) × LeavesNoSparePin members session (going_on_kept session))
