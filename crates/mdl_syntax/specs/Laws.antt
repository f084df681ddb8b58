-- Laws of what is read from a script. The limits are this project's own choice.
use Rattle.std.specs.Prelude.{◌≡◌, ℕ, ◌+◌, ◌≤◌, false, List, [], ◌∷◌, length, None, IfOk}
use Rattle.std.specs.List.{All, IsDistinct}
use Rattle.mdl_key.specs.declared.namespace.Namespace.TheVariants.{Table}
use Rattle.mdl_key.specs.Keys.{KeyName, key_eq, name_fault}
use Rattle.mdl_defs.specs.declared.change.Change.{Change}
use Rattle.mdl_defs.specs.declared.change.Change.TheVariants.{AddColumn, DropColumn}
use Rattle.mdl_defs.specs.Definitions.{most_columns}
use Rattle.mdl_lines.specs.Sessions.{IsScriptSession}
use Rattle.mdl_syntax.specs.declared.script.Line.{Line}
use Rattle.mdl_syntax.specs.declared.statement.Statement.{Statement}
use Rattle.mdl_syntax.specs.declared.statement.Statement.TheVariants.{Begin, Commit, Rollback, Savepoint, RollbackTo, Select, Write, CreateTable, CreateSchema, DropTables, RenameTable, UnlockTables, FlushTablesWithReadLock, KillQuery, Timeout, AlterTable, LockTables, DropSchema, GetLock, ReleaseLock}
use Rattle.mdl_syntax.specs.Forms.{tables_of}
use Rattle.mdl_syntax.specs.Scripts.{parsed}

-- a name of 1 to `longest_name` bytes of a-z, 0-9 and _
abbrev pub IsName : List ℕ → Type 0
IsName name = name_fault name ≡ None

-- the key of a table, whose schema and table are names
abbrev pub IsTable : KeyName → Type 0
IsTable key = (key.namespace ≡ Table) × IsName key.schema × IsName key.table

-- 1 to 8 tables, no two the same
abbrev pub AreTables : List KeyName → Type 0
AreTables tables = (1 ≤ length tables) × (length tables ≤ 8) × IsDistinct key_eq tables × All IsTable tables

-- 1 to `most_columns` columns
abbrev pub AreColumns : List (List ℕ) → Type 0
AreColumns columns = (1 ≤ length columns) × (length columns ≤ most_columns) × All IsName columns

-- a change that adds or drops a column
abbrev pub IsColumnChange : Change → Type 0
IsColumnChange (AddColumn column) = IsName column
IsColumnChange (DropColumn column) = IsName column
IsColumnChange _ = ⊥

-- a statement within the limits of the language
abbrev pub IsWithinLimits : Statement → Type 0
IsWithinLimits Begin = Unit {0}
IsWithinLimits Commit = Unit {0}
IsWithinLimits Rollback = Unit {0}
IsWithinLimits (Savepoint name) = IsName name
IsWithinLimits (RollbackTo name) = IsName name
IsWithinLimits (Select tables) = AreTables tables
IsWithinLimits (Write table priority) = IsTable table
IsWithinLimits (CreateTable table columns) = IsTable table × AreColumns columns
IsWithinLimits (CreateSchema name) = IsName name
IsWithinLimits (DropTables tables) = AreTables tables
IsWithinLimits (DropSchema name) = IsName name
IsWithinLimits (RenameTable from to) = IsTable from × IsTable to × (key_eq from to ≡ false)
IsWithinLimits UnlockTables = Unit {0}
IsWithinLimits FlushTablesWithReadLock = Unit {0}
IsWithinLimits (AlterTable alteration) = IsTable alteration.table × IsColumnChange alteration.change
IsWithinLimits (LockTables locks) = AreTables (tables_of locks)
IsWithinLimits (KillQuery session) = IsScriptSession session
IsWithinLimits Timeout = Unit {0}
IsWithinLimits (GetLock name) = IsName name
IsWithinLimits (ReleaseLock name) = IsName name

-- every statement that is read is within the limits, and asked of a session that a script can name
abbrev pub StatementsAreWithinLimits : Type 0
StatementsAreWithinLimits = (text : List ℕ) → IfOk (parsed text) (All (λ line. IsScriptSession line.session × IsWithinLimits line.statement))

-- lines with rising numbers, from this one on
abbrev pub RiseFrom : ℕ → List Line → Type 0
RiseFrom number [] = Unit {0}
RiseFrom number (line ∷ lines) = (number ≤ line.number) × RiseFrom (line.number + 1) lines

-- the lines that are read are in the order of their numbers, which are counted from 1
abbrev pub LineNumbersRise : Type 0
LineNumbersRise = (text : List ℕ) → IfOk (parsed text) (RiseFrom 1)
