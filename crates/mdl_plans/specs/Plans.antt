-- The plan of each statement: its steps in their order, after the statement table of the MySQL 5.7 Reference Manual and of this project's own
-- choices, which the definitions of rows list.
use Rattle.std.specs.Prelude.{Bool, true, false, List, [], ◌∷◌, ◌++◌, if◌then◌else◌}
use Rattle.mdl_key.specs.declared.mode.Mode.{Mode}
use Rattle.mdl_key.specs.declared.mode.Mode.TheVariants.{X, SU, SNW, SNRW}
use Rattle.mdl_syntax.specs.declared.statement.Algorithm.{Algorithm}
use Rattle.mdl_syntax.specs.declared.statement.Algorithm.TheVariants.{Copy, Inplace}
use Rattle.mdl_syntax.specs.declared.statement.Statement.{Statement}
use Rattle.mdl_syntax.specs.declared.statement.Statement.TheVariants as statement
use Rattle.mdl_rows.specs.Statements.{write_mode}
use Rattle.mdl_plans.specs.declared.step.Act.TheVariants as act
use Rattle.mdl_plans.specs.declared.step.Keys.{Keys}
use Rattle.mdl_plans.specs.declared.step.Keys.TheVariants as keys
use Rattle.mdl_plans.specs.declared.step.Manner.{Manner}
use Rattle.mdl_plans.specs.declared.step.Manner.TheVariants as manner
use Rattle.mdl_plans.specs.declared.step.Step.{Step}
use Rattle.mdl_plans.specs.declared.step.Step.TheVariants as step

-- keys are named and locked
abbrev pub locking : Keys → Manner → List Step
locking which how = step.Name which ∷ step.LockNamed how ∷ []

-- how DDL begins
abbrev pub ddl : List Step
ddl = step.NoReadLock ∷ step.NoLockedTables ∷ step.Commit ∷ []

-- a write in this mode
abbrev pub writing : Mode → List Step
writing mode = step.NoReadLock ∷ step.LockGlobal ∷ step.LockTable mode ∷ step.Each act.Exist ∷ step.Wrote ∷ []

-- CREATE TABLE
abbrev pub creating_table : List Step
creating_table =
    ddl ++ step.LockGlobal ∷ (locking keys.SchemaOf manner.Change ++ step.KeepScopes ∷ step.LockTable X ∷ step.SchemaExists ∷ step.NewTable ∷ step.CreateTable ∷ [])

-- CREATE SCHEMA
abbrev pub creating_schema : List Step
creating_schema = ddl ++ step.LockGlobal ∷ (locking keys.OwnSchema manner.Whole ++ step.KeepScopes ∷ step.NewSchema ∷ step.CreateSchema ∷ [])

-- DROP TABLE
abbrev pub dropping_tables : List Step
dropping_tables =
    ddl ++ locking keys.Scopes manner.Change ++ locking keys.Tables manner.Change ++ step.Each act.Exist ∷ step.Each act.MayChange ∷ step.Each act.Drop ∷ []

-- DROP SCHEMA
abbrev pub dropping_schema : List Step
dropping_schema =
    ddl ++ step.LockGlobal ∷ (locking keys.OwnSchema manner.Whole ++ step.KeepScopes ∷ step.SchemaExists ∷ (locking keys.TablesOfSchema manner.Change
    ++ step.Each act.MayChange ∷ step.SchemaMayChange ∷ step.Each act.Drop ∷ step.DropSchema ∷ []))

-- RENAME TABLE
abbrev pub renaming_table : List Step
renaming_table =
    ddl ++ locking keys.BothScopes manner.Change ++ step.KeepScopes ∷ (locking keys.BothNames manner.Change
    ++ step.NewNameIsFree ∷ step.TakeDefinition ∷ step.SchemaExists ∷ step.NamesMayChange ∷ step.Move ∷ [])

-- FLUSH TABLES WITH READ LOCK, by whether the session has the global read lock
abbrev pub flushing : Bool → List Step
flushing true = step.NoLockedTables ∷ step.Commit ∷ []
flushing false = step.NoLockedTables ∷ step.Commit ∷ step.LockWrites ∷ step.LockCommits ∷ []

-- ALTER TABLE: the table's schema, and then the table in this mode, before the column's change is checked
abbrev pub preparing : Mode → List Step
preparing mode = step.Commit ∷ step.LockGlobal ∷ (locking keys.SchemaOf manner.Change ++ step.LockTable mode ∷ step.CanAlter ∷ [])

-- what an algorithm makes of the table's lock before the table is changed
abbrev pub raising : Algorithm → List Step
raising Copy = step.Raise SNW ∷ step.Raise X ∷ []
raising Inplace = step.Raise X ∷ step.Lower SU ∷ step.Raise X ∷ []

-- ALTER TABLE, by whether the session has locked tables
abbrev pub altering : Bool → Algorithm → List Step
altering true algorithm = step.NoReadLock ∷ step.HeldForWrite ∷ (preparing SNRW ++ step.Raise X ∷ step.Alter ∷ step.Lower SNRW ∷ [])
altering false algorithm = step.NoReadLock ∷ (preparing SU ++ raising algorithm ++ step.Alter ∷ [])

-- LOCK TABLES
abbrev pub locking_tables : List Step
locking_tables =
    step.NoReadLockIfWrites ∷ step.Commit ∷ step.UnlockTables ∷ (locking keys.WrittenScopes manner.Change ++ step.KeepScopes ∷ (locking keys.Tables manner.Asked
    ++ step.Each act.Exist ∷ step.KeepLocked ∷ []))

-- the plan of each statement, by whether its session has locked tables, and whether it has the global read lock, when the statement begins
abbrev pub plan_of : Bool → Bool → Statement → List Step
plan_of has_locked has_read_lock statement.Begin = step.Commit ∷ step.UnlockTables ∷ step.Open ∷ []
plan_of has_locked has_read_lock statement.Commit = step.Commit ∷ []
plan_of has_locked has_read_lock statement.Rollback = step.Rollback ∷ []
plan_of has_locked has_read_lock (statement.Savepoint name) = step.Save ∷ []
plan_of has_locked has_read_lock (statement.RollbackTo name) = step.GoBack ∷ []
plan_of has_locked has_read_lock (statement.Select tables) = if has_locked then step.ReadHeld ∷ [] else step.ReadEach ∷ []
plan_of has_locked has_read_lock (statement.Write table priority) = if has_locked then step.HeldForWrite ∷ step.Wrote ∷ [] else writing (write_mode priority)
plan_of has_locked has_read_lock (statement.CreateTable table columns) = creating_table
plan_of has_locked has_read_lock (statement.CreateSchema name) = creating_schema
plan_of has_locked has_read_lock (statement.DropTables tables) = dropping_tables
plan_of has_locked has_read_lock (statement.DropSchema name) = dropping_schema
plan_of has_locked has_read_lock (statement.RenameTable from to) = renaming_table
plan_of has_locked has_read_lock statement.UnlockTables = step.UnlockTables ∷ step.UnlockReads ∷ []
plan_of has_locked has_read_lock statement.FlushTablesWithReadLock = flushing has_read_lock
plan_of has_locked has_read_lock (statement.AlterTable alteration) = altering has_locked alteration.algorithm
plan_of has_locked has_read_lock (statement.LockTables locks) = locking_tables
plan_of has_locked has_read_lock (statement.KillQuery target) = step.Kill ∷ []
plan_of has_locked has_read_lock statement.Timeout = []
plan_of has_locked has_read_lock (statement.GetLock name) = step.Name keys.UserLock ∷ step.LockUser ∷ []
plan_of has_locked has_read_lock (statement.ReleaseLock name) = step.Name keys.UserLock ∷ step.GiveBack ∷ []
