-- How the code reads words, when memory may run out.
use Rattle.std.specs.Prelude.{◌≡◌, ℕ, List, [], ◌∷◌, codes, Result, Ok, Err, IsOk}
use Rattle.mdl_lines.specs.declared.fault.LineError.{LineError}
use Rattle.mdl_lines.specs.declared.fault.LineError.TheVariants.{BadWord}
use Rattle.mdl_syntax.specs.declared.statement.LockType.{LockType}
use Rattle.mdl_syntax.specs.declared.no_statement.NoStatement.{NoStatement}
use Rattle.mdl_syntax.specs.declared.no_statement.NoStatement.TheVariants.{Refused, Memory}
use Rattle.mdl_syntax.specs.declared.statement.Priority.TheVariants.{Normal, Low}
use Rattle.mdl_syntax.specs.declared.statement.Statement.{Statement}
use Rattle.mdl_syntax.specs.declared.statement.Statement.TheVariants.{Begin, Rollback, RollbackTo, CreateTable, CreateSchema, RenameTable, AlterTable, KillQuery, UnlockTables, FlushTablesWithReadLock, LockTables, DropTables, DropSchema}
use Rattle.mdl_syntax.specs.Forms.{alteration, one_session, form, makes, no_more, one_name, read_by, table_and_columns, table_to_table, writes, and_then, lock_type_of, or_refuse, some_locks, some_tables}
use Rattle.mdl_syntax.specs.KeyWords.{behind}

-- the result of reading words that say this: a refusal is reported whether or not there is memory
abbrev pub ReadsAs : {A : Type 0} → Result A LineError → Result A NoStatement → Type 0
ReadsAs said (Ok value) = said ≡ Ok value
ReadsAs said (Err (Refused error)) = said ≡ Err error
ReadsAs said (Err Memory) = IsOk said

-- what the words after START say
abbrev pub start_of : List (List ℕ) → Result Statement LineError
start_of words = read_by (form (codes "TRANSACTION") (no_more Begin)) (behind (codes "TRANSACTION" ∷ []) words) (Err BadWord)

-- what the words after ROLLBACK say
abbrev pub rollback_of : List (List ℕ) → Result Statement LineError
rollback_of words = read_by (form (codes "TO") (makes RollbackTo one_name)) (behind (codes "TO" ∷ []) words) (no_more Rollback words)

-- what the words after INSERT, UPDATE or DELETE say
abbrev pub write_of : List (List ℕ) → Result Statement LineError
write_of words = read_by (form (codes "LOW_PRIORITY") (writes Low)) (behind (codes "LOW_PRIORITY" ∷ []) words) (writes Normal words)

-- what the words after CREATE say
abbrev pub create_of : List (List ℕ) → Result Statement LineError
create_of words =
    read_by (form (codes "TABLE") (makes (λ named. CreateTable named.0 named.1) table_and_columns)) (behind (codes "TABLE" ∷ []) words)
    (read_by (form (codes "SCHEMA") (makes CreateSchema one_name)) (behind (codes "SCHEMA" ∷ []) words) (Err BadWord))

-- what the words after DROP say
abbrev pub drop_of : List (List ℕ) → Result Statement LineError
drop_of words =
    read_by (form (codes "TABLE") (makes DropTables some_tables)) (behind (codes "TABLE" ∷ []) words)
    (read_by (form (codes "SCHEMA") (makes DropSchema one_name)) (behind (codes "SCHEMA" ∷ []) words) (Err BadWord))

-- what the words after RENAME say
abbrev pub rename_of : List (List ℕ) → Result Statement LineError
rename_of words =
    read_by (form (codes "TABLE") (makes (λ named. RenameTable named.0 named.1) table_to_table)) (behind (codes "TABLE" ∷ []) words) (Err BadWord)

-- what the words after ALTER say
abbrev pub alter_of : List (List ℕ) → Result Statement LineError
alter_of words = read_by (form (codes "TABLE") (makes AlterTable alteration)) (behind (codes "TABLE" ∷ []) words) (Err BadWord)

-- what the words after KILL say
abbrev pub kill_of : List (List ℕ) → Result Statement LineError
kill_of words = read_by (form (codes "QUERY") (makes KillQuery one_session)) (behind (codes "QUERY" ∷ []) words) (Err BadWord)

-- what the words after UNLOCK say
abbrev pub unlock_of : List (List ℕ) → Result Statement LineError
unlock_of words = read_by (form (codes "TABLES") (no_more UnlockTables)) (behind (codes "TABLES" ∷ []) words) (Err BadWord)

-- what the words after FLUSH say
abbrev pub flush_of : List (List ℕ) → Result Statement LineError
flush_of words =
    read_by (form (codes "TABLES WITH READ LOCK") (no_more FlushTablesWithReadLock)) (behind (codes "TABLES" ∷ codes "WITH" ∷ codes "READ" ∷ codes "LOCK" ∷ []) words) (Err BadWord)

-- what the words after LOCK say
abbrev pub lock_of : List (List ℕ) → Result Statement LineError
lock_of words = read_by (form (codes "TABLES") (makes LockTables some_locks)) (behind (codes "TABLES" ∷ []) words) (Err BadWord)

-- the lock type that the first word names, and the words after it
abbrev pub next_lock_type : List (List ℕ) → Result (LockType × List (List ℕ)) LineError
next_lock_type [] = Err BadWord
next_lock_type (word ∷ words) = and_then (or_refuse BadWord (lock_type_of word)) (λ lock_type. Ok (lock_type, words))
