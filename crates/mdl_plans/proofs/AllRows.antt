-- The plans of all statements.
use Rattle.std.proofs.Common.{refl, ap}
use Rattle.std.specs.Prelude.{is_some}
use Rattle.mdl_context.specs.Contexts.{current_mark}
use Rattle.mdl_syntax.specs.declared.statement.Statement.TheVariants as statement
use Rattle.mdl_rows.specs.States.{has_locked}
use Rattle.mdl_rows.specs.Statements.{row_of}
use Rattle.mdl_plans.specs.PlanLaws.{PlansAreStatements, PlansStartAlike}
use Rattle.mdl_plans.specs.Seen.{seen}
use Rattle.mdl_plans.specs.Steps.{planned}
use Rattle.mdl_plans.proofs.MoreRows.{begin-same, create_schema-same, create_table-same, drop_schema-same, drop_tables-same, flush-same, lock_tables-same, release_lock-same, rename_table-same, rollback-same, rollback_to-same, savepoint-same, unlock-same}
use Rattle.mdl_plans.proofs.PlayLemmas.{plays-alike}
use Rattle.mdl_plans.proofs.StatementRows.{alter-same, commit-plan-same, select-same, write-same}

pub plans-are-statements : PlansAreStatements
plans-are-statements statement.Begin state = ap (seen state) begin-same
plans-are-statements statement.Commit state = ap (seen state) (commit-plan-same (has_locked state.locked) (is_some state.read_lock))
plans-are-statements statement.Rollback state = ap (seen state) rollback-same
plans-are-statements (statement.Savepoint name) state = ap (seen state) (savepoint-same name)
plans-are-statements (statement.RollbackTo name) state = ap (seen state) (rollback_to-same name)
plans-are-statements (statement.Select tables) state = ap (seen state) (select-same tables (has_locked state.locked) (is_some state.read_lock))
plans-are-statements (statement.Write table priority) state = ap (seen state) (write-same table priority (has_locked state.locked) (is_some state.read_lock))
plans-are-statements (statement.CreateTable table columns) state = ap (seen state) (create_table-same table columns (has_locked state.locked) (is_some state.read_lock))
plans-are-statements (statement.CreateSchema name) state = ap (seen state) (create_schema-same name (has_locked state.locked) (is_some state.read_lock))
plans-are-statements (statement.DropTables tables) state = ap (seen state) (drop_tables-same tables (has_locked state.locked) (is_some state.read_lock))
plans-are-statements (statement.DropSchema name) state = ap (seen state) (drop_schema-same name (has_locked state.locked) (is_some state.read_lock))
plans-are-statements (statement.RenameTable from to) state = ap (seen state) (rename_table-same from to (has_locked state.locked) (is_some state.read_lock))
plans-are-statements statement.UnlockTables state = ap (seen state) unlock-same
plans-are-statements statement.FlushTablesWithReadLock state = flush-same state
plans-are-statements (statement.AlterTable alteration) state = alter-same alteration state
plans-are-statements (statement.LockTables locks) state = ap (seen state) (lock_tables-same locks (has_locked state.locked) (is_some state.read_lock))
plans-are-statements (statement.KillQuery target) state = refl
plans-are-statements statement.Timeout state = refl
plans-are-statements (statement.GetLock name) state = refl
plans-are-statements (statement.ReleaseLock name) state = ap (seen state) (release_lock-same name)

pub plans-start-alike : PlansStartAlike
plans-start-alike at session = plays-alike (planned at) (row_of at) (current_mark session.context.kept) session (plans-are-statements at session.state)
