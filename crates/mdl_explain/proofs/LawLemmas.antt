-- The laws of explanations, step by step and statement by statement.
use Rattle.std.proofs.Common.{◌≡◌, ◌∙◌, ℕ, ◌+◌, ◌==◌, Bool, true, false, true≢false, List, [], ◌∷◌, ◌++◌, cond, codes, ap, ap₂, append_assoc, refl, sym}
use Rattle.std.specs.List.{count_by}
use Rattle.std.proofs.lemmas.List.Sums.{sum_by-append, sum_by-cons}
use Rattle.mdl_key.specs.Modes.{mode_name}
use Rattle.mdl_key.specs.declared.mode.Mode.{Mode}
use Rattle.mdl_key.specs.declared.mode.Mode.TheVariants as modes
use Rattle.mdl_syntax.specs.declared.statement.Statement.{Statement}
use Rattle.mdl_syntax.specs.declared.statement.Statement.TheVariants as statement
use Rattle.mdl_plans.specs.declared.step.Act.TheVariants as act
use Rattle.mdl_plans.specs.declared.step.Keys.{Keys}
use Rattle.mdl_plans.specs.declared.step.Keys.TheVariants as keys
use Rattle.mdl_plans.specs.declared.step.Manner.{Manner}
use Rattle.mdl_plans.specs.declared.step.Manner.TheVariants as manner
use Rattle.mdl_plans.specs.declared.step.Step.{Step}
use Rattle.mdl_plans.specs.declared.step.Step.TheVariants as step
use Rattle.mdl_plans.specs.Plans.{plan_of}
use Rattle.mdl_explain.specs.Explanations.{is_planned_by_read_lock, is_planned_by_tables, named_after, step_line, steps_text, words_line}
use Rattle.mdl_explain.specs.Laws.{OtherPlansAreTold, StepsAreLines, is_told}

-- how many lines a text has
abbrev lines : List ℕ → ℕ
lines text = count_by (λ byte. byte == 10) text

both : (one other : List ℕ) → lines (one ++ other) ≡ lines one + lines other
both one other = sum_by-append (λ byte. cond (byte == 10) 1 0) one other

-- words behind a mode
with_mode : (mode : List ℕ) (byte : ℕ) (words : List ℕ) → lines mode ≡ 0 → lines (byte ∷ words ++ codes "\n") ≡ 1 → lines (words_line mode (byte ∷ words)) ≡ 1
with_mode mode byte words none one =
    ap lines (append_assoc (codes "  " ++ mode) (byte ∷ words) (codes "\n")) ∙ both (codes "  " ++ mode) (byte ∷ words ++ codes "\n")
    ∙ ap₂ (λ m n. m + n) (both (codes "  ") mode ∙ ap (λ n. lines (codes "  ") + n) none) one

mode_has_none : (mode : Mode) → lines (mode_name mode) ≡ 0
mode_has_none modes.IX = refl
mode_has_none modes.S = refl
mode_has_none modes.SH = refl
mode_has_none modes.SR = refl
mode_has_none modes.SW = refl
mode_has_none modes.SWLP = refl
mode_has_none modes.SU = refl
mode_has_none modes.SRO = refl
mode_has_none modes.SNW = refl
mode_has_none modes.SNRW = refl
mode_has_none modes.X = refl

keys_line : (named : Keys) (how : Manner) → lines (step_line named (step.LockNamed how)) ≡ 1
keys_line keys.Scopes manner.Change = refl
keys_line keys.Scopes manner.Whole = refl
keys_line keys.Scopes manner.Asked = refl
keys_line keys.SchemaOf manner.Change = refl
keys_line keys.SchemaOf manner.Whole = refl
keys_line keys.SchemaOf manner.Asked = refl
keys_line keys.OwnSchema manner.Change = refl
keys_line keys.OwnSchema manner.Whole = refl
keys_line keys.OwnSchema manner.Asked = refl
keys_line keys.BothScopes manner.Change = refl
keys_line keys.BothScopes manner.Whole = refl
keys_line keys.BothScopes manner.Asked = refl
keys_line keys.WrittenScopes manner.Change = refl
keys_line keys.WrittenScopes manner.Whole = refl
keys_line keys.WrittenScopes manner.Asked = refl
keys_line keys.Tables manner.Change = refl
keys_line keys.Tables manner.Whole = refl
keys_line keys.Tables manner.Asked = refl
keys_line keys.BothNames manner.Change = refl
keys_line keys.BothNames manner.Whole = refl
keys_line keys.BothNames manner.Asked = refl
keys_line keys.TablesOfSchema manner.Change = refl
keys_line keys.TablesOfSchema manner.Whole = refl
keys_line keys.TablesOfSchema manner.Asked = refl
keys_line keys.UserLock manner.Change = refl
keys_line keys.UserLock manner.Whole = refl
keys_line keys.UserLock manner.Asked = refl

schema_line : (named : Keys) → lines (step_line named step.SchemaExists) ≡ 1
schema_line keys.Scopes = refl
schema_line keys.SchemaOf = refl
schema_line keys.OwnSchema = refl
schema_line keys.BothScopes = refl
schema_line keys.WrittenScopes = refl
schema_line keys.Tables = refl
schema_line keys.BothNames = refl
schema_line keys.TablesOfSchema = refl
schema_line keys.UserLock = refl

-- each step
one_line : (named : Keys) (step : Step) → lines (step_line named step) ≡ cond (is_told step) 1 0
one_line named step.NoReadLock = refl
one_line named step.NoReadLockIfWrites = refl
one_line named step.NoLockedTables = refl
one_line named step.HeldForWrite = refl
one_line named step.Commit = refl
one_line named step.Rollback = refl
one_line named step.Open = refl
one_line named step.Save = refl
one_line named step.GoBack = refl
one_line named step.Wrote = refl
one_line named step.LockGlobal = refl
one_line named (step.LockTable mode) = with_mode (mode_name mode) 32 (codes "of the table, for the transaction") (mode_has_none mode) refl
one_line named (step.Name which) = refl
one_line named (step.LockNamed how) = keys_line named how
one_line named step.KeepScopes = refl
one_line named (step.Raise mode) = with_mode (mode_name mode) 32 (codes "in place of the table's lock, which is kept during a wait") (mode_has_none mode) refl
one_line named (step.Lower mode) = with_mode (mode_name mode) 32 (codes "in place of the table's lock, at once") (mode_has_none mode) refl
one_line named step.LockWrites = refl
one_line named step.LockCommits = refl
one_line named step.LockUser = refl
one_line named step.SchemaExists = schema_line named
one_line named step.SchemaMayChange = refl
one_line named step.NewSchema = refl
one_line named step.NewTable = refl
one_line named (step.Each act.Exist) = refl
one_line named (step.Each act.MayChange) = refl
one_line named (step.Each act.Drop) = refl
one_line named step.CanAlter = refl
one_line named step.NewNameIsFree = refl
one_line named step.TakeDefinition = refl
one_line named step.NamesMayChange = refl
one_line named step.CreateSchema = refl
one_line named step.DropSchema = refl
one_line named step.CreateTable = refl
one_line named step.Alter = refl
one_line named step.Move = refl
one_line named step.ReadEach = refl
one_line named step.ReadHeld = refl
one_line named step.KeepLocked = refl
one_line named step.UnlockTables = refl
one_line named step.UnlockReads = refl
one_line named step.Kill = refl
one_line named step.GiveBack = refl

pub steps_are_lines : StepsAreLines
steps_are_lines named [] = refl
steps_are_lines named (step ∷ steps) =
    both (step_line named step) (steps_text (named_after named step) steps)
    ∙ ap₂ (λ m n. m + n) (one_line named step) (steps_are_lines (named_after named step) steps)
    ∙ sym (sum_by-cons (λ step. cond (is_told step) 1 0) step steps)

-- each statement
by_read_lock : (at : Statement) (locked : Bool) → is_planned_by_read_lock at ≡ false → plan_of locked true at ≡ plan_of locked false at
by_read_lock statement.Begin locked told = refl
by_read_lock statement.Commit locked told = refl
by_read_lock statement.Rollback locked told = refl
by_read_lock (statement.Savepoint name) locked told = refl
by_read_lock (statement.RollbackTo name) locked told = refl
by_read_lock (statement.Select tables) locked told = refl
by_read_lock (statement.Write table priority) locked told = refl
by_read_lock (statement.CreateTable table columns) locked told = refl
by_read_lock (statement.CreateSchema name) locked told = refl
by_read_lock (statement.DropTables tables) locked told = refl
by_read_lock (statement.DropSchema name) locked told = refl
by_read_lock (statement.RenameTable from to) locked told = refl
by_read_lock statement.UnlockTables locked told = refl
by_read_lock statement.FlushTablesWithReadLock locked told = absurd (true≢false told)
by_read_lock (statement.AlterTable alteration) locked told = refl
by_read_lock (statement.LockTables locks) locked told = refl
by_read_lock (statement.KillQuery target) locked told = refl
by_read_lock statement.Timeout locked told = refl
by_read_lock (statement.GetLock name) locked told = refl
by_read_lock (statement.ReleaseLock name) locked told = refl

by_tables : (at : Statement) (read_lock : Bool) → is_planned_by_tables at ≡ false → plan_of true read_lock at ≡ plan_of false read_lock at
by_tables statement.Begin read_lock told = refl
by_tables statement.Commit read_lock told = refl
by_tables statement.Rollback read_lock told = refl
by_tables (statement.Savepoint name) read_lock told = refl
by_tables (statement.RollbackTo name) read_lock told = refl
by_tables (statement.Select tables) read_lock told = absurd (true≢false told)
by_tables (statement.Write table priority) read_lock told = absurd (true≢false told)
by_tables (statement.CreateTable table columns) read_lock told = refl
by_tables (statement.CreateSchema name) read_lock told = refl
by_tables (statement.DropTables tables) read_lock told = refl
by_tables (statement.DropSchema name) read_lock told = refl
by_tables (statement.RenameTable from to) read_lock told = refl
by_tables statement.UnlockTables read_lock told = refl
by_tables statement.FlushTablesWithReadLock read_lock told = refl
by_tables (statement.AlterTable alteration) read_lock told = absurd (true≢false told)
by_tables (statement.LockTables locks) read_lock told = refl
by_tables (statement.KillQuery target) read_lock told = refl
by_tables statement.Timeout read_lock told = refl
by_tables (statement.GetLock name) read_lock told = refl
by_tables (statement.ReleaseLock name) read_lock told = refl

pub other_plans_are_told : OtherPlansAreTold
other_plans_are_told = (by_read_lock, by_tables)
