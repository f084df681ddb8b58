-- What a session is shown of a table twice within one transaction, after MySQL 5.7: the Reference Manual, "Metadata Locking". The laws are
-- about the answers to the lines of a script.
use Rattle.std.specs.Prelude.{◌≡◌, ℕ, Bool, true, false, List, ◌∷◌, ◌++◌, Contains, is_some}
use Rattle.std.specs.List.{All}
use Rattle.mdl_core.specs.CoreSystems.{system_of}
use Rattle.mdl_lines.specs.Sessions.{IsScriptSession}
use Rattle.mdl_syntax.specs.declared.script.Line.{Line}
use Rattle.mdl_syntax.specs.declared.statement.Statement.{Statement}
use Rattle.mdl_syntax.specs.declared.statement.Statement.TheVariants as statement
use Rattle.mdl_rows.specs.declared.reply.Reply.TheVariants.{Columns}
use Rattle.mdl_rows.specs.declared.reply.TableShown.{TableShown}
use Rattle.mdl_rows.specs.Statements.{table_columns}
use Rattle.mdl_script.specs.declared.told.News.TheVariants.{Ends}
use Rattle.mdl_script.specs.declared.told.Told.{Told}
use Rattle.mdl_script.specs.Worlds.{World, line_played, lines_played, player_at, script_played}

-- whether a statement neither begins nor ends a transaction, goes back to no savepoint and changes no definition
abbrev pub leaves_transaction : Statement → Bool
leaves_transaction (statement.Select tables) = true
leaves_transaction (statement.Write table priority) = true
leaves_transaction (statement.Savepoint name) = true
leaves_transaction (statement.KillQuery target) = true
leaves_transaction statement.Timeout = true
leaves_transaction (statement.GetLock name) = true
leaves_transaction (statement.ReleaseLock name) = true
leaves_transaction _ = false

-- a session's lines ask only for statements that leave its transaction alone
abbrev pub LeavesTransaction : ℕ → List Line → Type 0
LeavesTransaction who lines = All (λ line. line.session ≡ who → leaves_transaction line.statement ≡ true) lines

-- all lines are of sessions that a script can name
abbrev pub AreOfSessions : List Line → Type 0
AreOfSessions lines = All (λ line. IsScriptSession line.session) lines

-- among these answers, one shows a table to a session, by a statement that has ended
abbrev pub IsShownTo : ℕ → List Told → TableShown → Type 0
IsShownTo who told table =
    (line : ℕ) × (tables : List TableShown) × Contains told (record { line = line; who = who; news = Ends (Columns tables) }) × Contains tables table

-- whether a session's transaction is open
abbrev pub has_transaction : ℕ → World → Bool
has_transaction who world = (player_at who world).session.state.is_open

-- a table is shown to a session by a line or the turns after it. Later lines follow, by which the session neither begins nor ends a
-- transaction, goes back to no savepoint and changes no definition, and after which its transaction is open: so it was open all the time.
-- Whatever the other sessions did, each time that the table was shown to the session meanwhile, it was the same version, with the same
-- columns
abbrev pub TransactionsSeeOneDefinition : Type 0
TransactionsSeeOneDefinition =
    (before : List Line) (line : Line) (later : List Line) (who : ℕ) (one other : TableShown) → AreOfSessions (before ++ line ∷ later) →
    let first = line_played line (script_played before).world in
    let rest = lines_played later first.world in
    IsShownTo who first.told one → LeavesTransaction who later → has_transaction who rest.world ≡ true → IsShownTo who rest.told other →
    one.key ≡ other.key → one ≡ other

-- a table's key is defined in a world with the version and the columns that were shown
abbrev pub StandsAsShown : World → TableShown → Type 0
StandsAsShown world table =
    let defined = (system_of world.core).definitions table.key in
    (is_some defined.definition ≡ true) × (defined.version ≡ table.version) × (table_columns defined.definition ≡ table.columns)

-- a table that was shown to a session is defined as it was shown, as long as the session's transaction is open and it is asked only for
-- such statements: no other session has changed or dropped it
abbrev pub TransactionsKeepWhatTheySaw : Type 0
TransactionsKeepWhatTheySaw =
    (before : List Line) (line : Line) (later : List Line) (who : ℕ) (table : TableShown) → AreOfSessions (before ++ line ∷ later) →
    let first = line_played line (script_played before).world in
    let rest = lines_played later first.world in
    IsShownTo who first.told table → LeavesTransaction who later → has_transaction who rest.world ≡ true → StandsAsShown rest.world table
