-- The forms of statements: key words, and what may follow them. The script language is this project's own. Words are read
-- from left to right, and the first fault counts.
use Rattle.std.specs.Prelude.{ℕ, nat_le, List, [], ◌∷◌, ◌++◌, length, codes, Option, Some, None, Result, Ok, Err, if◌then◌else◌, map}
use Rattle.std.specs.Option.{option_and_then}
use Rattle.std.specs.List.{list_any}
use Rattle.mdl_key.specs.Keys.{KeyName, key_eq}
use Rattle.mdl_defs.specs.declared.change.Change.{Change}
use Rattle.mdl_defs.specs.declared.change.Change.TheVariants.{AddColumn, DropColumn}
use Rattle.mdl_defs.specs.Definitions.{most_columns}
use Rattle.mdl_lines.specs.declared.fault.LineError.{LineError}
use Rattle.mdl_lines.specs.declared.fault.LineError.TheVariants.{BadName, BadSession, BadWord}
use Rattle.mdl_lines.specs.Lines.{same_text, words_of}
use Rattle.mdl_lines.specs.Sessions.{session_of}
use Rattle.mdl_syntax.specs.declared.statement.Algorithm.{Algorithm}
use Rattle.mdl_syntax.specs.declared.statement.Algorithm.TheVariants.{Copy, Inplace}
use Rattle.mdl_syntax.specs.declared.statement.Alteration.{Alteration}
use Rattle.mdl_syntax.specs.declared.statement.LockType.{LockType}
use Rattle.mdl_syntax.specs.declared.statement.LockType.TheVariants as to
use Rattle.mdl_syntax.specs.declared.statement.Priority.{Priority}
use Rattle.mdl_syntax.specs.declared.statement.Priority.TheVariants.{Normal, Low}
use Rattle.mdl_syntax.specs.declared.statement.Statement.{Statement}
use Rattle.mdl_syntax.specs.declared.statement.Statement.TheVariants.{Begin, Commit, Rollback, Savepoint, RollbackTo, Select, Write, CreateTable, CreateSchema, DropTables, RenameTable, UnlockTables, FlushTablesWithReadLock, KillQuery, Timeout, AlterTable, LockTables, DropSchema, GetLock, ReleaseLock}
use Rattle.mdl_syntax.specs.declared.table_locks.TableLock.{TableLock}
use Rattle.mdl_syntax.specs.KeyWords.{behind}
use Rattle.mdl_syntax.specs.Names.{name_of, table_of}

-- a value goes on to the next step, and a refusal stays
abbrev pub and_then : {A B : Type 0} → Result A LineError → (A → Result B LineError) → Result B LineError
and_then (Ok value) next = next value
and_then (Err error) next = Err error

-- a value that has to be there: without one, this refusal
abbrev pub or_refuse : {A : Type 0} → LineError → Option A → Result A LineError
or_refuse error (Some value) = Ok value
or_refuse error None = Err error

-- a value, if no word is left
abbrev pub no_more : {A : Type 0} → A → List (List ℕ) → Result A LineError
no_more value [] = Ok value
no_more value (word ∷ words) = Err BadWord

-- the meaning of the only word. If the word means nothing, it is refused with this error
abbrev pub one_word : {A : Type 0} → LineError → (List ℕ → Option A) → List (List ℕ) → Result A LineError
one_word error meaning [] = Err BadWord
one_word error meaning (word ∷ words) = and_then (or_refuse error (meaning word)) (λ value. no_more value words)

-- one name
abbrev pub one_name : List (List ℕ) → Result (List ℕ) LineError
one_name = one_word BadName name_of

-- one table
abbrev pub one_table : List (List ℕ) → Result KeyName LineError
one_table = one_word BadName table_of

-- one session
abbrev pub one_session : List (List ℕ) → Result ℕ LineError
one_session = one_word BadSession session_of

-- a table to add to these: a ninth is one word too many, and none may be named twice
abbrev pub next_table : List KeyName → List ℕ → Result KeyName LineError
next_table tables word =
    if nat_le 8 (length tables) then Err BadWord
    else and_then (or_refuse BadName (table_of word)) (λ table. if list_any (key_eq table) tables then Err BadName else Ok table)

-- these tables, and the one that a word names
abbrev pub more_tables : List KeyName → List ℕ → Result (List KeyName) LineError
more_tables tables word = and_then (next_table tables word) (λ table. Ok (tables ++ table ∷ []))

-- these columns, and the one that a word names: one past `most_columns` is one word too many
abbrev pub more_columns : List (List ℕ) → List ℕ → Result (List (List ℕ)) LineError
more_columns columns word =
    if nat_le most_columns (length columns) then Err BadWord
    else and_then (or_refuse BadName (name_of word)) (λ column. Ok (columns ++ column ∷ []))

-- a list to which each word in turn adds
abbrev pub each_word : {A : Type 0} → (List A → List ℕ → Result (List A) LineError) → List A → List (List ℕ) → Result (List A) LineError
each_word adds values [] = Ok values
each_word adds values (word ∷ words) = and_then (adds values word) (λ more. each_word adds more words)

-- the list that the words make, of which there has to be at least one
abbrev pub listed : {A : Type 0} → (List A → List ℕ → Result (List A) LineError) → List (List ℕ) → Result (List A) LineError
listed adds [] = Err BadWord
listed adds (word ∷ words) = each_word adds [] (word ∷ words)

-- at least one table
abbrev pub some_tables : List (List ℕ) → Result (List KeyName) LineError
some_tables = listed more_tables

-- the lock type that a word names
abbrev pub lock_type_of : List ℕ → Option LockType
lock_type_of word = if same_text word (codes "READ") then Some to.Read else if same_text word (codes "WRITE") then Some to.Write else None

-- the tables to lock, without their lock types
abbrev pub tables_of : List TableLock → List KeyName
tables_of locks = map (λ lock. lock.table) locks

-- these tables to lock, and the ones that words name, each followed by its lock type
abbrev pub more_locks : List TableLock → List (List ℕ) → Result (List TableLock) LineError
more_locks locks [] = Ok locks
more_locks locks (word ∷ []) = and_then (next_table (tables_of locks) word) (λ table. Err BadWord)
more_locks locks (word ∷ behind ∷ words) =
    and_then (next_table (tables_of locks) word) (λ table. and_then (or_refuse BadWord (lock_type_of behind))
    (λ lock_type. more_locks (locks ++ record { table = table; lock_type = lock_type } ∷ []) words))

-- at least one table to lock
abbrev pub some_locks : List (List ℕ) → Result (List TableLock) LineError
some_locks [] = Err BadWord
some_locks (word ∷ words) = more_locks [] (word ∷ words)

-- at least one column
abbrev pub some_columns : List (List ℕ) → Result (List (List ℕ)) LineError
some_columns = listed more_columns

-- a table and then its columns
abbrev pub table_and_columns : List (List ℕ) → Result (KeyName × List (List ℕ)) LineError
table_and_columns [] = Err BadWord
table_and_columns (word ∷ words) =
    and_then (or_refuse BadName (table_of word)) (λ table. and_then (some_columns words) (λ columns. Ok (table, columns)))

-- the table that a word names, if it isn't this one
abbrev pub other_table : KeyName → List ℕ → Option KeyName
other_table table word = option_and_then (λ other. if key_eq table other then None else Some other) (table_of word)

-- a table, and another one after the key word TO
abbrev pub table_to_table : List (List ℕ) → Result (KeyName × KeyName) LineError
table_to_table [] = Err BadWord
table_to_table (word ∷ words) =
    and_then (or_refuse BadName (table_of word)) (λ from.
    and_then (or_refuse BadWord (behind (codes "TO" ∷ []) words)) (λ words_behind.
    and_then (one_word BadName (other_table from) words_behind) (λ to. Ok (from, to))))

-- the algorithm that a word names
abbrev pub algorithm_of : List ℕ → Option Algorithm
algorithm_of word = if same_text word (codes "COPY") then Some Copy else (if same_text word (codes "INPLACE") then Some Inplace else None)

-- how a table is altered
abbrev pub one_algorithm : List (List ℕ) → Result Algorithm LineError
one_algorithm = one_word BadWord algorithm_of

-- a column, and how its table is altered
abbrev pub column_and_algorithm : List (List ℕ) → Result (List ℕ × Algorithm) LineError
column_and_algorithm [] = Err BadWord
column_and_algorithm (word ∷ words) =
    and_then (or_refuse BadName (name_of word)) (λ column. and_then (one_algorithm words) (λ algorithm. Ok (column, algorithm)))

-- the words after a key word, if it is there, as they are read there, otherwise the result of the other readings
abbrev pub read_behind : {A : Type 0} → (List (List ℕ) → Result A LineError) → Option (List (List ℕ)) → Result A LineError → Result A LineError
read_behind reads (Some words) others = reads words
read_behind reads None others = others

-- this change of the column that words name, and how its table is altered
abbrev pub altered_by : (List ℕ → Change) → List (List ℕ) → Result (Change × Algorithm) LineError
altered_by change words = and_then (column_and_algorithm words) (λ said. Ok (change said.0, said.1))

-- a column to add or drop, and how its table is altered
abbrev pub column_change : List (List ℕ) → Result (Change × Algorithm) LineError
column_change words =
    read_behind (altered_by AddColumn) (behind (codes "ADD" ∷ []) words)
    (read_behind (altered_by DropColumn) (behind (codes "DROP" ∷ []) words) (Err BadWord))

-- a table and then a change of its columns
abbrev pub alteration : List (List ℕ) → Result Alteration LineError
alteration [] = Err BadWord
alteration (word ∷ words) =
    and_then (or_refuse BadName (table_of word)) (λ table. and_then (column_change words) (λ said. Ok (record { table = table; change = said.0; algorithm = said.1 })))

-- the statement that is made of what words say
abbrev pub makes : {A : Type 0} → (A → Statement) → (List (List ℕ) → Result A LineError) → List (List ℕ) → Result Statement LineError
makes statement reads words = and_then (reads words) (λ value. Ok (statement value))

-- a write to one table
abbrev pub writes : Priority → List (List ℕ) → Result Statement LineError
writes priority = makes (λ table. Write table priority) one_table

-- a form: its key words, and how the words after them are read
pub record Form : Type 0 where
  pub key_words : List (List ℕ)
  pub reads : List (List ℕ) → Result Statement LineError

abbrev pub form : List ℕ → (List (List ℕ) → Result Statement LineError) → Form
form key_words reads = record { key_words = words_of key_words; reads = reads }

-- what a form reads after its key words, if they are there, otherwise the result of the other forms
abbrev pub read_by : Form → Option (List (List ℕ)) → Result Statement LineError → Result Statement LineError
read_by form (Some words) others = form.reads words
read_by form None others = others

-- the table of forms. If two fit, the first one counts: LOW_PRIORITY after INSERT is no table
abbrev pub forms : List Form
forms =
    form (codes "BEGIN") (no_more Begin)
    ∷ form (codes "START TRANSACTION") (no_more Begin)
    ∷ form (codes "COMMIT") (no_more Commit)
    ∷ form (codes "ROLLBACK TO") (makes RollbackTo one_name)
    ∷ form (codes "ROLLBACK") (no_more Rollback)
    ∷ form (codes "SAVEPOINT") (makes Savepoint one_name)
    ∷ form (codes "SELECT") (makes Select some_tables)
    ∷ form (codes "INSERT LOW_PRIORITY") (writes Low)
    ∷ form (codes "INSERT") (writes Normal)
    ∷ form (codes "UPDATE LOW_PRIORITY") (writes Low)
    ∷ form (codes "UPDATE") (writes Normal)
    ∷ form (codes "DELETE LOW_PRIORITY") (writes Low)
    ∷ form (codes "DELETE") (writes Normal)
    ∷ form (codes "CREATE TABLE") (makes (λ named. CreateTable named.0 named.1) table_and_columns)
    ∷ form (codes "CREATE SCHEMA") (makes CreateSchema one_name)
    ∷ form (codes "DROP TABLE") (makes DropTables some_tables)
    ∷ form (codes "DROP SCHEMA") (makes DropSchema one_name)
    ∷ form (codes "RENAME TABLE") (makes (λ named. RenameTable named.0 named.1) table_to_table)
    ∷ form (codes "ALTER TABLE") (makes AlterTable alteration)
    ∷ form (codes "LOCK TABLES") (makes LockTables some_locks)
    ∷ form (codes "UNLOCK TABLES") (no_more UnlockTables)
    ∷ form (codes "FLUSH TABLES WITH READ LOCK") (no_more FlushTablesWithReadLock)
    ∷ form (codes "KILL QUERY") (makes KillQuery one_session)
    ∷ form (codes "TIMEOUT") (no_more Timeout)
    ∷ form (codes "GET_LOCK") (makes GetLock one_name)
    ∷ form (codes "RELEASE_LOCK") (makes ReleaseLock one_name)
    ∷ []

-- what the first of these forms that fits says. If none fits, a key word is misspelled or missing
abbrev pub says_in : List Form → List (List ℕ) → Result Statement LineError
says_in [] words = Err BadWord
says_in (form ∷ forms) words = read_by form (behind form.key_words words) (says_in forms words)

-- the statement that words say, or their first fault
abbrev pub statement_of : List (List ℕ) → Result Statement LineError
statement_of words = says_in forms words
