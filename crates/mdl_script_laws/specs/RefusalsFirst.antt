-- Statements that are refused before they ask for their first lock, after MySQL 5.7: the Reference Manual, "LOCK TABLES and UNLOCK
-- TABLES Statements" and "SAVEPOINT, ROLLBACK TO SAVEPOINT, and RELEASE SAVEPOINT Statements". That such a statement hasn't committed
-- anything either is this project's own choice.
use Rattle.std.specs.Prelude.{◌≡◌, Bool, true, false, [], Some, None, IsTrue}
use Rattle.mdl_key.specs.declared.mode.Duration.TheVariants as for
use Rattle.mdl_calls.specs.Words.{Each, Runs}
use Rattle.mdl_core.specs.CoreJoins.{Joins}
use Rattle.mdl_core.specs.Cores.{Core}
use Rattle.mdl_context.specs.Contexts.{tickets_for}
use Rattle.mdl_context.specs.Tidying.{IsTidy as IsTidyContext}
use Rattle.mdl_syntax.specs.declared.statement.Statement.{Statement}
use Rattle.mdl_rows.specs.declared.error_number.ErrorNumber.{ErrorNumber}
use Rattle.mdl_rows.specs.declared.error_number.ErrorNumber.TheVariants.{TableLockedForRead, TableNotLocked, ActiveLocks, ConflictingReadLock, NoSuchSavepoint}
use Rattle.mdl_rows.specs.declared.reply.Reply.TheVariants as reply
use Rattle.mdl_rows.specs.Endings.{Pause, Ends, Begins_to_wait, Waits_on, Faults}
use Rattle.mdl_rows.specs.Playing.{starting, going_on}
use Rattle.mdl_rows.specs.Sessions.{Left, Session}
use Rattle.mdl_rows.specs.States.{half_lock}

-- whether an error is of a check that comes before a statement's first lock: the statement isn't allowed while its session has these
-- locked tables or the global read lock, or there is no such savepoint
abbrev pub is_early : ErrorNumber → Bool
is_early TableLockedForRead = true
is_early TableNotLocked = true
is_early ActiveLocks = true
is_early ConflictingReadLock = true
is_early NoSuchSavepoint = true
is_early _ = false

-- a session between statements is tidy: it has nothing left to do, it keeps no ticket for a statement, and unless a transaction is open
-- it keeps none for a transaction, and has both tickets of the global read lock or none. It knows no place but those where it has something
pub record IsTidy (session : Session) : Type 0 where
  pub over : session.left ≡ None
  pub statement : tickets_for for.Statement session.context.kept ≡ []
  pub transaction : session.state.is_open ≡ false → tickets_for for.Transaction session.context.kept ≡ []
  pub whole : half_lock session.state ≡ None
  pub places : IsTidyContext session.context

-- a session in the middle of a statement: it has something left to do, and kept no ticket for a statement when that began
abbrev pub IsUnderway : Session → Type 0
IsUnderway session = (left : Left) × (session.left ≡ Some left) × (left.mark.statement ≡ 0)

-- however far a statement comes, its session is tidy once it has ended, and underway until then
abbrev pub EndsTidy : Pause → Type 0
EndsTidy (Ends reply session) = IsTidy session
EndsTidy (Begins_to_wait key mode session) = IsUnderway session
EndsTidy (Waits_on session) = IsUnderway session
EndsTidy (Faults session) = IsTidy session

-- a statement that starts in a tidy session, and ends with such an error, has changed nothing: the session is unchanged, and so is the
-- space
abbrev pub EarlyErrorsChangeNothing : Type 0
EarlyErrorsChangeNothing =
    (statement : Statement) (session after : Session) (a b : Core) (number : ErrorNumber) → IsTidy session → IsTrue (is_early number) →
    Runs Joins a (starting statement session) (Ends (reply.Error number) after) b → (after ≡ session) × (b ≡ a)

-- sessions are tidy between statements: a statement that starts in a session that keeps no ticket for a statement leaves it tidy when it ends,
-- however often it waits
abbrev pub SessionsStayTidy : Type 0
SessionsStayTidy =
    (session : Session) →
    ((statement : Statement) → tickets_for for.Statement session.context.kept ≡ [] → Each EndsTidy (starting statement session))
    × (IsUnderway session → Each EndsTidy (going_on session))
