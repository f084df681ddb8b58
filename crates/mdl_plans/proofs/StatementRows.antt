-- The plan of each statement means its row.
use Rattle.std.proofs.Common.{◌≡◌, ◌∙◌, ℕ, Bool, true, false, List, [], ◌∷◌, ◌++◌, refl, sym, ap, if◌then◌else◌}
use mathlib.Core.Path.{fun_ext}
use Rattle.std.specs.Prelude.{is_some, not}
use Rattle.mdl_key.specs.declared.mode.Mode.{Mode}
use Rattle.mdl_key.specs.declared.mode.Mode.TheVariants.{IX, SR, X, SU, SNRW}
use Rattle.mdl_key.specs.declared.mode.Duration.TheVariants as for
use Rattle.mdl_key.specs.Keys.{KeyName, global_key}
use Rattle.mdl_syntax.specs.declared.statement.Algorithm.{Algorithm}
use Rattle.mdl_syntax.specs.declared.statement.Algorithm.TheVariants.{Copy, Inplace}
use Rattle.mdl_syntax.specs.declared.statement.Alteration.{Alteration}
use Rattle.mdl_syntax.specs.declared.statement.Priority.{Priority}
use Rattle.mdl_syntax.specs.declared.statement.Statement.{Statement}
use Rattle.mdl_syntax.specs.declared.statement.Statement.TheVariants as statement
use Rattle.mdl_rows.specs.declared.error_number.ErrorNumber.TheVariants.{ConflictingReadLock}
use Rattle.mdl_rows.specs.declared.reply.Reply.{Reply}
use Rattle.mdl_rows.specs.declared.reply.Reply.TheVariants as reply
use Rattle.mdl_rows.specs.declared.reply.TableShown.{TableShown}
use Rattle.mdl_rows.specs.Rows.{Row, Give, Room, Acquire, ◌>>=◌, ◌>>◌, look, upgrade}
use Rattle.mdl_rows.specs.States.{State, has_locked}
use Rattle.mdl_rows.specs.Statements.{alter_after_commit, alter_among_locked, alter_by, alter_locked, alter_unlocked, change_and_lower, check_change, commit, commit_first, ddl_lock, lock_held, lock_to_read, lock_writes, no_read_lock, row_of, schema_of, show, show_all, write_locked, write_mode, write_unlocked, wrote}
use Rattle.mdl_plans.specs.declared.step.Act.TheVariants as act
use Rattle.mdl_plans.specs.declared.step.Keys.TheVariants as keys
use Rattle.mdl_plans.specs.declared.step.Manner.TheVariants as manner
use Rattle.mdl_plans.specs.declared.step.Step.{Step}
use Rattle.mdl_plans.specs.declared.step.Step.TheVariants as step
use Rattle.mdl_plans.specs.Plans.{altering, plan_of, raising}
use Rattle.mdl_plans.specs.Registers.{fresh, holding, showing}
use Rattle.mdl_plans.specs.Seen.{seen}
use Rattle.mdl_plans.specs.Steps.{meaning, planned, read_each, read_held}
use Rattle.mdl_plans.proofs.PlanRows.{commit-same, exist-same, held-same, read_lock-same, wrote-same}
use Rattle.mdl_plans.proofs.RowLemmas.{act-then, bind-assoc, then-same}
use Rattle.mdl_plans.proofs.SeenLemmas.{check-seen, commit-seen, held-seen}

-- ---- SELECT

reads-same : (at : Statement) (tables : List KeyName) (shown : List TableShown) →
    read_each tables (showing shown fresh) >>= meaning at [] ≡ show_all lock_to_read shown tables
reads-same at [] shown = refl
reads-same at (table ∷ tables) shown = ap (Acquire (record { key = table; mode = SR; duration = for.Transaction })) (fun_ext (λ ticket.
    bind-assoc (show shown table ticket) (λ more. read_each tables (showing more fresh)) (meaning at [])
    ∙ then-same (show shown table ticket) (λ more. read_each tables (showing more fresh) >>= meaning at []) (λ more. show_all lock_to_read more tables) (reads-same at tables)))

reads-held-same : (at : Statement) (tables : List KeyName) (shown : List TableShown) →
    read_held tables (showing shown fresh) >>= meaning at [] ≡ show_all lock_held shown tables
reads-held-same at [] shown = refl
reads-held-same at (table ∷ tables) shown =
    bind-assoc (lock_held table) (λ ticket. show shown table ticket >>= (λ more. read_held tables (showing more fresh))) (meaning at [])
    ∙ then-same (lock_held table) (λ ticket. (show shown table ticket >>= (λ more. read_held tables (showing more fresh))) >>= meaning at [])
    (λ ticket. show shown table ticket >>= (λ more. show_all lock_held more tables)) (λ ticket.
    bind-assoc (show shown table ticket) (λ more. read_held tables (showing more fresh)) (meaning at [])
    ∙ then-same (show shown table ticket) (λ more. read_held tables (showing more fresh) >>= meaning at []) (λ more. show_all lock_held more tables)
    (reads-held-same at tables))

pub select-same : (tables : List KeyName) (locked read : Bool) → let at = statement.Select tables in
    meaning at (plan_of locked read at) fresh ≡ show_all (if locked then lock_held else lock_to_read) [] tables
select-same tables true read = reads-held-same (statement.Select tables) tables []
select-same tables false read = reads-same (statement.Select tables) tables []

-- ---- INSERT, UPDATE, DELETE

pub write-same : (table : KeyName) (priority : Priority) (locked read : Bool) → let at = statement.Write table priority in
    meaning at (plan_of locked read at) fresh ≡ (if locked then write_locked table else write_unlocked table priority)
write-same table priority true read =
    let at = statement.Write table priority in
    held-same at (step.Wrote ∷ []) wrote (wrote-same at fresh)
write-same table priority false read =
    let at = statement.Write table priority in
    read_lock-same at (step.LockGlobal ∷ step.LockTable (write_mode priority) ∷ step.Each act.Exist ∷ step.Wrote ∷ []) (lock_writes table priority)
    (ap (Acquire (record { key = global_key; mode = IX; duration = for.Statement })) (fun_ext (λ global.
    ap (Acquire (record { key = table; mode = write_mode priority; duration = for.Transaction })) (fun_ext (λ ticket.
    exist-same ticket (holding table ticket fresh) (meaning at (step.Wrote ∷ [])) wrote (wrote-same at (holding table ticket fresh)))))))

-- ---- COMMIT

pub commit-plan-same : (locked read : Bool) → meaning statement.Commit (plan_of locked read statement.Commit) fresh ≡ row_of statement.Commit
commit-plan-same locked read = commit-same statement.Commit [] (Give reply.Ok) refl

-- ---- ALTER TABLE

-- under the locks of GLOBAL and the schema
abbrev under_scopes : Alteration → Row Reply → Row Reply
under_scopes alteration next = Acquire (ddl_lock global_key) (λ _. Room (Acquire (ddl_lock (schema_of alteration.table)) (λ _. next)))

-- what is done under them, once it is settled whether the session has locked tables
abbrev in_schema : Bool → Alteration → Row Reply
in_schema true alteration = alter_locked alteration
in_schema false alteration = alter_unlocked alteration

-- the row behind its first check, once that is settled
abbrev settled : Bool → Alteration → Row Reply
settled true alteration = alter_among_locked alteration.table (under_scopes alteration (in_schema true alteration))
settled false alteration = commit_first (under_scopes alteration (in_schema false alteration))

-- the plan behind the commit
abbrev behind_commit : Mode → List Step → List Step
behind_commit mode steps =
    step.LockGlobal ∷ step.Name keys.SchemaOf ∷ step.LockNamed manner.Change ∷ step.LockTable mode ∷ step.CanAlter ∷ steps

-- the locks, and the check under them
alter-locks-same : (alteration : Alteration) (mode : Mode) (steps : List Step) (next : ℕ → Row Reply) → let at = statement.AlterTable alteration in
    ((ticket : ℕ) → meaning at steps (holding alteration.table ticket fresh) ≡ next ticket) →
    meaning at (behind_commit mode steps) fresh
    ≡ under_scopes alteration (Acquire (record { key = alteration.table; mode = mode; duration = for.Transaction }) (λ ticket. check_change alteration.change ticket >> next ticket))
alter-locks-same alteration mode steps next same =
    let at = statement.AlterTable alteration in
    ap (Acquire (ddl_lock global_key)) (fun_ext (λ global. ap Room (
    ap (Acquire (ddl_lock (schema_of alteration.table))) (fun_ext (λ schema.
    ap (Acquire (record { key = alteration.table; mode = mode; duration = for.Transaction })) (fun_ext (λ ticket.
    act-then (check_change alteration.change ticket) (holding alteration.table ticket fresh) (meaning at steps) (next ticket) (same ticket))))))))

-- the change of the table's lock, and the change of the table
alter-ends-same : (alteration : Alteration) (algorithm : Algorithm) (ticket : ℕ) →
    meaning (statement.AlterTable alteration) (raising algorithm ++ step.Alter ∷ []) (holding alteration.table ticket fresh) ≡ alter_by algorithm alteration ticket
alter-ends-same alteration Copy ticket = refl
alter-ends-same alteration Inplace ticket = refl

alter-plan-same : (alteration : Alteration) (locked : Bool) →
    meaning (statement.AlterTable alteration) (altering locked alteration.algorithm) fresh ≡ no_read_lock >> settled locked alteration
alter-plan-same alteration true =
    let at = statement.AlterTable alteration in
    let ends = step.Raise X ∷ step.Alter ∷ step.Lower SNRW ∷ [] in
    let next = under_scopes alteration (alter_locked alteration) in
    read_lock-same at (step.HeldForWrite ∷ step.Commit ∷ behind_commit SNRW ends) (settled true alteration)
    (held-same at (step.Commit ∷ behind_commit SNRW ends) (commit >> next)
    (commit-same at (behind_commit SNRW ends) next
    (alter-locks-same alteration SNRW ends (λ ticket. upgrade ticket alteration.table X >>= (λ alone. change_and_lower alteration alone)) (λ ticket. refl))))
alter-plan-same alteration false =
    let at = statement.AlterTable alteration in
    let ends = raising alteration.algorithm ++ step.Alter ∷ [] in
    let next = under_scopes alteration (alter_unlocked alteration) in
    read_lock-same at (step.Commit ∷ behind_commit SU ends) (settled false alteration)
    (commit-same at (behind_commit SU ends) next
    (alter-locks-same alteration SU ends (λ ticket. alter_by alteration.algorithm alteration ticket) (λ ticket. alter-ends-same alteration alteration.algorithm ticket)))

-- the row looks twice whether the session has locked tables, and sees the same
looks-twice : (alteration : Alteration) (state : State) (locked : Bool) → has_locked state.locked ≡ locked →
    seen state (under_scopes alteration (in_schema locked alteration)) ≡ seen state (alter_after_commit alteration)
looks-twice alteration state locked e =
    ap (Acquire (ddl_lock global_key)) (fun_ext (λ global. ap Room (ap (Acquire (ddl_lock (schema_of alteration.table))) (fun_ext (λ schema.
    by locked ∙ ap (λ (test : Bool). seen state (if test then alter_locked alteration else alter_unlocked alteration)) (sym e)))))) where
      by : (test : Bool) → seen state (in_schema test alteration) ≡ seen state (if test then alter_locked alteration else alter_unlocked alteration)
      by true = refl
      by false = refl

settled-seen : (alteration : Alteration) (state : State) (locked : Bool) → has_locked state.locked ≡ locked →
    seen state (settled locked alteration)
    ≡ seen state (if locked then alter_among_locked alteration.table (alter_after_commit alteration) else commit_first (alter_after_commit alteration))
settled-seen alteration state true e =
    let one = under_scopes alteration (in_schema true alteration) in
    let other = alter_after_commit alteration in
    held-seen state alteration.table (commit >> one) (commit >> other)
    (commit-seen state one other (λ after locked read. looks-twice alteration after true (ap has_locked locked ∙ e)))
settled-seen alteration state false e =
    let one = under_scopes alteration (in_schema false alteration) in
    let other = alter_after_commit alteration in
    commit-seen state one other (λ after locked read. looks-twice alteration after false (ap has_locked locked ∙ e))

pub alter-same : (alteration : Alteration) (state : State) → let at = statement.AlterTable alteration in
    seen state (planned at) ≡ seen state (row_of at)
alter-same alteration state =
    let locked = has_locked state.locked in
    ap (seen state) (alter-plan-same alteration locked)
    ∙ check-seen state (not (is_some state.read_lock)) ConflictingReadLock (settled locked alteration)
    (look >>= (λ (now : State). if has_locked now.locked then alter_among_locked alteration.table (alter_after_commit alteration) else commit_first (alter_after_commit alteration)))
    (settled-seen alteration state locked refl)
