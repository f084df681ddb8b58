-- A script's turns come to their end: how many locks a statement asks for, that no session is left whose turn has come, that a statement
-- waits exactly if its session has an unsettled wait, and how many waits are reported.
use Rattle.std.specs.Prelude.{◌≡◌, ℕ, suc, ◌+◌, ◌*◌, ◌≤◌, Bool, false, ◌&&◌, ◌==◌, List, length, filter, take, Option, None, Ok}
use Rattle.std.specs.List.{All}
use Rattle.mdl_key.specs.Words.{KeyName, most_places}
use Rattle.mdl_core.specs.CoreCalls.{has_settled, wait_at}
use Rattle.mdl_core.specs.Seats.{is_unsettled_wait}
use Rattle.mdl_lines.specs.Sessions.{IsScriptSession}
use Rattle.mdl_context.specs.declared.request.Mark.{Mark}
use Rattle.mdl_defs.specs.declared.versioned_definition.VersionedDefinition.{VersionedDefinition}
use Rattle.mdl_syntax.specs.declared.script.Line.{Line}
use Rattle.mdl_syntax.specs.declared.statement.Statement.{Statement}
use Rattle.mdl_syntax.specs.declared.statement.Statement.TheVariants.{Begin, Commit, Select, Write, CreateTable, CreateSchema, DropTables, RenameTable, FlushTablesWithReadLock, AlterTable, LockTables, DropSchema, GetLock}
use Rattle.mdl_syntax.specs.Laws.{IsWithinLimits}
use Rattle.mdl_syntax.specs.Scripts.{parsed}
use Rattle.mdl_rows.specs.Rows.{Row}
use Rattle.mdl_rows.specs.Rows as row
use Rattle.mdl_rows.specs.States.{State}
use Rattle.mdl_rows.specs.Statements.{row_of}
use Rattle.mdl_script.specs.declared.told.Told.{Told}
use Rattle.mdl_script.specs.Texts.{is_wait_news}
use Rattle.mdl_script.specs.Worlds.{World, continuing_settled, first_settled, script_played, session_waits, unreported, waiting_in}

-- a schema has no more tables than a space has places
abbrev pub AreFewTables : List ℕ → Type 0
AreFewTables tables = length tables ≤ most_places

-- a row asks for at most this number of locks, one after the other, whatever its calls return. Making a lock stronger counts as one more.
-- A lock that is only tried counts for nothing, since the row doesn't wait for it
abbrev pub AsksForAtMost : {A : Type 0} → ℕ → Row A → Type 0
AsksForAtMost most (row.Give x) = Unit {0}
AsksForAtMost most (row.Fail number) = Unit {0}
AsksForAtMost most (row.Room rest) = AsksForAtMost most rest
AsksForAtMost most (row.Look rest) = (state : State) → AsksForAtMost most (rest state)
AsksForAtMost most (row.Set change rest) = AsksForAtMost most rest
AsksForAtMost most (row.Here rest) = (mark : Mark) → AsksForAtMost most (rest mark)
AsksForAtMost most (row.Acquire wish rest) = (fewer : ℕ) × (most ≡ suc fewer) × ((id : ℕ) → AsksForAtMost fewer (rest id))
AsksForAtMost most (row.Try_acquire wish rest) = (got : Option ℕ) → AsksForAtMost most (rest got)
AsksForAtMost most (row.Last key rest) = (held : Option ℕ) → AsksForAtMost most (rest held)
AsksForAtMost most (row.Upgrade id key mode rest) = (fewer : ℕ) × (most ≡ suc fewer) × ((id : ℕ) → AsksForAtMost fewer (rest id))
AsksForAtMost most (row.Downgrade id mode rest) = AsksForAtMost most rest
AsksForAtMost most (row.Give_up which rest) = AsksForAtMost most rest
AsksForAtMost most (row.Release id rest) = AsksForAtMost most rest
AsksForAtMost most (row.Keep rest) = AsksForAtMost most rest
AsksForAtMost most (row.Read id rest) = (standing : VersionedDefinition) → AsksForAtMost most (rest standing)
AsksForAtMost most (row.Redefine id change rest) = AsksForAtMost most rest
AsksForAtMost most (row.Tables_of schema rest) = (tables : List ℕ) → AreFewTables tables → AsksForAtMost most (rest tables)
AsksForAtMost most (row.Key_of place rest) = (key : KeyName) → AsksForAtMost most (rest key)
AsksForAtMost most (row.Kill target rest) = AsksForAtMost most rest

-- the most locks that a statement asks for: the COMMIT lock if it has to commit, the global lock if it writes or changes definitions, and
-- the tables or the schema that it names, with the tables' schemas if these are created, dropped, renamed, altered or locked for writing,
-- and with the schema's tables if it is dropped. For the global read lock these are the global lock and once more the COMMIT lock. A
-- table that is altered is locked up to three times, each time more strongly. A user-level lock is requested alone
abbrev pub most_locks_of : Statement → ℕ
most_locks_of Begin = 1
most_locks_of Commit = 1
most_locks_of (Select tables) = length tables
most_locks_of (Write table priority) = 3
most_locks_of (CreateTable table columns) = 4
most_locks_of (CreateSchema name) = 3
most_locks_of (DropTables tables) = 2 + 2 * length tables
most_locks_of (DropSchema name) = 3 + most_places
most_locks_of (RenameTable from to) = 6
most_locks_of FlushTablesWithReadLock = 3
most_locks_of (AlterTable alteration) = 6
most_locks_of (LockTables locks) = 2 + 2 * length locks
most_locks_of (GetLock name) = 1
most_locks_of _ = 0

-- the most locks that a statement of the language asks for: those of a DROP SCHEMA
abbrev pub most_locks : ℕ
most_locks = 3 + most_places

-- no statement asks for more locks than `most_locks_of` says, and within the limits of the language for no more than `most_locks`
abbrev pub StatementsAskForFewLocks : Type 0
StatementsAskForFewLocks =
    (statement : Statement) → AsksForAtMost (most_locks_of statement) (row_of statement) × (IsWithinLimits statement → most_locks_of statement ≤ most_locks)

-- each session that waits has a wait that isn't settled
abbrev pub WaitersAreUnsettled : World → Type 0
WaitersAreUnsettled world = All (λ who. has_settled world.core who ≡ false) (waiting_in world)

-- the turns after a line are always enough: after each line of a script no session is left whose turn has come
abbrev pub TurnsSuffice : Type 0
TurnsSuffice = (text : List ℕ) (lines : List Line) → parsed text ≡ Ok lines → (n : ℕ) → first_settled (script_played (take n lines)).world ≡ None

-- after each line of a script, more turns would do nothing, and report nothing
abbrev pub MoreTurnsDoNothing : Type 0
MoreTurnsDoNothing =
    (text : List ℕ) (lines : List Line) → parsed text ≡ Ok lines → (n turns : ℕ) →
    let world = (script_played (take n lines)).world in continuing_settled turns world ≡ unreported world

-- after each line of a script, each session that waits has a wait that isn't settled
abbrev pub NobodyIsLeftSettled : Type 0
NobodyIsLeftSettled =
    (text : List ℕ) (lines : List Line) → parsed text ≡ Ok lines → (n : ℕ) → WaitersAreUnsettled (script_played (take n lines)).world

-- a session's statement waits exactly if the session has a wait in the lock space that isn't settled
abbrev pub WaitsInTheSpace : World → Type 0
WaitsInTheSpace world = (who : ℕ) → IsScriptSession who → session_waits world who ≡ is_unsettled_wait (wait_at who world.core)

-- after each line of a script, each session's statement waits exactly if the session has such a wait
abbrev pub StatementsWaitInTheSpace : Type 0
StatementsWaitInTheSpace = (text : List ℕ) (lines : List Line) → parsed text ≡ Ok lines → (n : ℕ) → WaitsInTheSpace (script_played (take n lines)).world

-- whether the statement of the line of this number is reported to wait
abbrev pub is_wait_of : ℕ → Told → Bool
is_wait_of number told = told.line == number && is_wait_news told.news

-- how many waits of that statement are reported
abbrev pub waits_told : ℕ → List Told → ℕ
waits_told number told = length (filter (is_wait_of number) told)

-- a whole script reports no more waits of a statement than the statement asks for locks
abbrev pub StatementsTellOfFewWaits : Type 0
StatementsTellOfFewWaits =
    (text : List ℕ) (lines : List Line) → parsed text ≡ Ok lines → All (λ line. waits_told line.number (script_played lines).told ≤ most_locks_of line.statement) lines
