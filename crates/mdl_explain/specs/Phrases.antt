-- What the steps of plans say. The words are this project's own, the numbers of errors those of the table of statements, and the modes those that
-- each step asks for.
use Rattle.std.specs.Prelude.{ℕ, List, [], codes}
use Rattle.mdl_key.specs.Modes.{mode_name}
use Rattle.mdl_plans.specs.declared.step.Act.TheVariants as act
use Rattle.mdl_plans.specs.declared.step.Keys.{Keys}
use Rattle.mdl_plans.specs.declared.step.Keys.TheVariants as keys
use Rattle.mdl_plans.specs.declared.step.Manner.{Manner}
use Rattle.mdl_plans.specs.declared.step.Manner.TheVariants as manner
use Rattle.mdl_plans.specs.declared.step.Step.{Step}
use Rattle.mdl_plans.specs.declared.step.Step.TheVariants as step

-- keys that are locked one after the other, in their order
abbrev pub keys_text : Keys → List ℕ
keys_text keys.Scopes = codes " of GLOBAL for the statement, then of the tables' schemas, in order, for the transaction"
keys_text keys.SchemaOf = codes " of the table's schema, for the transaction"
keys_text keys.OwnSchema = codes " of the schema, for the transaction"
keys_text keys.BothScopes = codes " of GLOBAL for the statement, then of the schemas of both names, in order, for the transaction"
keys_text keys.WrittenScopes = codes " of GLOBAL, then of the schemas of tables for WRITE, in order; none if all are for READ"
keys_text keys.Tables = codes " of each table, in order, for the transaction"
keys_text keys.BothNames = codes " of both names, in order, for the transaction"
keys_text keys.TablesOfSchema = codes " of each table that the schema has by then, in order, for the transaction"
keys_text keys.UserLock = codes " of the user-level lock, for the transaction"

-- the check of a schema: that of the new name if both names are locked, or else the only one
abbrev pub schema_text : Keys → List ℕ
schema_text keys.BothNames = codes "error 1049 if the schema of the new name is missing"
schema_text _ = codes "error 1049 if the schema is missing"

-- the mode in which they are locked to change definitions: a table is changed itself, a scope has what is changed within
abbrev pub change_mode : Keys → List ℕ
change_mode keys.Scopes = codes "IX"
change_mode keys.SchemaOf = codes "IX"
change_mode keys.OwnSchema = codes "IX"
change_mode keys.BothScopes = codes "IX"
change_mode keys.WrittenScopes = codes "IX"
change_mode keys.Tables = codes "X"
change_mode keys.BothNames = codes "X"
change_mode keys.TablesOfSchema = codes "X"
change_mode keys.UserLock = codes "IX"

-- the mode in which they are locked
abbrev pub named_mode : Keys → Manner → List ℕ
named_mode named manner.Change = change_mode named
named_mode named manner.Whole = codes "X"
named_mode named manner.Asked = codes "SNRW (WRITE) or SRO (READ)"

-- the mode that a step says before its words, after steps that named these keys last
abbrev pub mode_text : Keys → Step → List ℕ
mode_text named (step.LockTable mode) = mode_name mode
mode_text named (step.Raise mode) = mode_name mode
mode_text named (step.Lower mode) = mode_name mode
mode_text named (step.LockNamed how) = named_mode named how
mode_text named _ = []

-- its words. What only prepares other steps has none
abbrev pub step_text : Keys → Step → List ℕ
step_text named step.NoReadLock = codes "error 1223 if the session has the global read lock"
step_text named step.NoReadLockIfWrites = codes "error 1223 if a table is for WRITE and the session has the global read lock"
step_text named step.NoLockedTables = codes "error 1192 if the session has locked tables"
step_text named step.HeldForWrite = codes "error 1100 if the table isn't among the locked ones, 1099 if it is locked for reading"
step_text named step.Commit = codes "an open transaction is committed, under IX of COMMIT if it wrote, and its locks are released"
step_text named step.Rollback = codes "an open transaction ends, and its locks are released"
step_text named step.Open = codes "a transaction is opened"
step_text named step.Save = codes "the savepoint is set, if a transaction is open"
step_text named step.GoBack = codes "error 1305 if there is no such savepoint; otherwise what was locked since is released"
step_text named step.Wrote = codes "without an open transaction, the write is committed under IX of COMMIT"
step_text named step.LockGlobal = codes "IX of GLOBAL, for the statement"
step_text named (step.LockTable mode) = codes " of the table, for the transaction"
step_text named (step.Name which) = []
step_text named (step.LockNamed how) = keys_text named
step_text named step.KeepScopes = []
step_text named (step.Raise mode) = codes " in place of the table's lock, which is kept during a wait"
step_text named (step.Lower mode) = codes " in place of the table's lock, at once"
step_text named step.LockWrites = codes "S of GLOBAL, until the session releases it"
step_text named step.LockCommits = codes "S of COMMIT, until the session releases it; if it isn't got, GLOBAL is released"
step_text named step.LockUser = codes "X of the user-level lock, until the session releases it; the reply is 1"
step_text named step.SchemaExists = schema_text named
step_text named step.SchemaMayChange = codes "error 9003 if the schema has no version left"
step_text named step.NewSchema = codes "error 1007 if the schema exists, 9003 if it has no version left"
step_text named step.NewTable = codes "error 1050 if the table exists, 1060 if a column is named twice, 9003 if it has no version left"
step_text named (step.Each act.Exist) = codes "error 1146 if a table is missing"
step_text named (step.Each act.MayChange) = codes "error 9003 if a table has no version left"
step_text named (step.Each act.Drop) = codes "each table is dropped"
step_text named step.CanAlter = codes "error 1146 if the table is missing, 1060 if it has the column to add, 1091 if it lacks the one to drop, 9001 if that is its last, 9002 if it has 64, 9003 if it has no version left"
step_text named step.NewNameIsFree = codes "error 1050 if the new name exists"
step_text named step.TakeDefinition = codes "error 1146 if the table is missing"
step_text named step.NamesMayChange = codes "error 9003 if one of both names has no version left"
step_text named step.CreateSchema = codes "the schema is created"
step_text named step.DropSchema = codes "the schema is dropped"
step_text named step.CreateTable = codes "the table is created"
step_text named step.Alter = codes "the column is added or dropped"
step_text named step.Move = codes "the table gets its new name"
step_text named step.ReadEach = codes "SR of each table as it is named, for the transaction; error 1146 if it is missing, before the next"
step_text named step.ReadHeld = codes "for each table as it is named: error 1100 if it isn't among the locked ones, 1146 if it is missing"
step_text named step.KeepLocked = codes "all of these are kept until UNLOCK TABLES, BEGIN or another LOCK TABLES"
step_text named step.UnlockTables = codes "the locked tables are released, with GLOBAL and the schemas around them"
step_text named step.UnlockReads = codes "the global read lock is released"
step_text named step.Kill = codes "a wait of that session ends with error 1317"
step_text named step.GiveBack = codes "the user-level lock is released, and the reply is 1; otherwise 0 if another session holds it, and NULL if none does"
