-- What is read of a script is within its limits, and in order.
use Rattle.std.proofs.Common.{◌≡◌, ℕ, ◌+◌, ◌≤◌, ◌<◌, Bool, true, false, cond, List, [], ◌∷◌, ◌++◌, length, nat_le, nat_lt, codes, refl, sym, subst, arith, rules}
use Rattle.std.specs.Prelude.{Option, Some, None, Result, Ok, Err, IfOk, IfSome}
use Rattle.std.specs.List.{after_first, All, AllByRecursion, before_first, IsDistinct, list_any, position_or_len}
use Rattle.std.specs.Option.{option_and_then, option_map}
use Rattle.std.specs.Cmp.{IsEquivalence}
use Rattle.std.specs.Cmp.Rules.{comparing}
use Rattle.std.proofs.lemmas.Bool.{leb-false}
use Rattle.std.proofs.lemmas.List.{length-append, map-append}
use Rattle.std.proofs.lemmas.List.Elements.{All-append, All-cons, All-nil}
use Rattle.std.proofs.lemmas.Map.Keys.{IsDistinct-push}
use Rattle.mdl_key.specs.declared.key_error.KeyError.{KeyError}
use Rattle.mdl_key.specs.Keys.{KeyName, key_eq, name_fault, table_key}
use Rattle.mdl_defs.specs.declared.change.Change.{Change}
use Rattle.mdl_defs.specs.declared.change.Change.TheVariants.{AddColumn, DropColumn}
use Rattle.mdl_defs.specs.Definitions.{most_columns}
use Rattle.mdl_lines.specs.declared.fault.LineError.{LineError}
use Rattle.mdl_lines.specs.declared.fault.LineError.TheVariants.{BadName, BadSession, BadWord}
use Rattle.mdl_lines.specs.ScriptLines.{said_before}
use Rattle.mdl_lines.specs.Sessions.{IsScriptSession, session_of}
use Rattle.mdl_lines.proofs.ScriptLemmas.{said_by-holds}
use Rattle.mdl_lines.proofs.Sessions.{session_of-IsScriptSession}
use Rattle.mdl_syntax.specs.declared.script.Line.{Line}
use Rattle.mdl_syntax.specs.declared.statement.Statement.{Statement}
use Rattle.mdl_syntax.specs.declared.statement.Alteration.{Alteration}
use Rattle.mdl_syntax.specs.declared.statement.Priority.{Priority}
use Rattle.mdl_syntax.specs.declared.statement.Priority.TheVariants.{Normal, Low}
use Rattle.mdl_syntax.specs.declared.statement.Statement.TheVariants.{Begin, Commit, Rollback, Savepoint, RollbackTo, Select, Write, CreateTable, CreateSchema, DropTables, RenameTable, UnlockTables, FlushTablesWithReadLock, KillQuery, Timeout, AlterTable, LockTables, DropSchema, GetLock, ReleaseLock}
use Rattle.mdl_syntax.specs.declared.table_locks.TableLock.{TableLock}
use Rattle.mdl_syntax.specs.KeyWords.{behind}
use Rattle.mdl_syntax.specs.Laws.{AreColumns, AreTables, IsColumnChange, IsName, IsTable, IsWithinLimits, RiseFrom}
use Rattle.mdl_syntax.specs.Names.{is_dot, name_of, table_in, table_of, unless_fault}
use Rattle.mdl_syntax.specs.Scripts.{line_says, lines_say, words_say}
use Rattle.mdl_syntax.specs.Forms.{altered_by, alteration, and_then, column_and_algorithm, column_change, each_word, Form, forms, listed, makes, more_columns, more_tables, no_more, one_algorithm, one_name, one_session, one_table, one_word, or_refuse, other_table, read_behind, read_by, says_in, some_columns, some_tables, statement_of, table_and_columns, table_to_table, writes, lock_type_of, more_locks, next_table, some_locks, tables_of}

-- a line that says something says it with its number
abbrev Numbered : ℕ → Line → Type 0
Numbered number line = line.number ≡ number

and_then-holds : {A B : Type 0} (P : B → Type 0) (first : Result A LineError) (next : A → Result B LineError) → ((value : A) → IfOk (next value) P) → IfOk (and_then first next) P
and_then-holds P (Ok value) next h = h value
and_then-holds P (Err error) next h = tt

words_say-numbered : (number : ℕ) (words : List (List ℕ)) → IfOk (words_say number words) (λ said. IfSome said (Numbered number))
words_say-numbered number [] = tt
words_say-numbered number (word ∷ words) =
    and_then-holds (λ said. IfSome said (Numbered number)) (or_refuse BadSession (session_of word)) _ (λ session.
    and_then-holds (λ said. IfSome said (Numbered number)) (statement_of words) _ (λ statement. refl))

RiseFrom-lower : (low high : ℕ) (lines : List Line) → low ≤ high → RiseFrom high lines → RiseFrom low lines
RiseFrom-lower low high [] l h = tt
RiseFrom-lower low high (line ∷ lines) l h = (omega (arith, h.0, l), h.1)

before-rises : (number : ℕ) (said : Result (Option Line) LineError) (rest : Result (List Line) (ℕ × LineError)) → IfOk said (λ said. IfSome said (Numbered number)) → IfOk rest (RiseFrom (number + 1)) → IfOk (said_before number said rest) (RiseFrom number)
before-rises number (Err error) rest h k = tt
before-rises number (Ok None) (Ok lines) h k = RiseFrom-lower number (number + 1) lines (omega arith) k
before-rises number (Ok None) (Err refusal) h k = tt
before-rises number (Ok (Some line)) (Ok lines) h k = (omega (arith, h), RiseFrom-lower (line.number + 1) (number + 1) lines (omega (arith, h)) k)
before-rises number (Ok (Some line)) (Err refusal) h k = tt

pub lines_say-rise : (number : ℕ) (lines : List (List ℕ)) → IfOk (lines_say number lines) (RiseFrom number)
lines_say-rise number [] = tt
lines_say-rise number (line ∷ lines) =
    before-rises number (line_says number line) (lines_say (number + 1) lines) (said_by-holds (Numbered number) (words_say number) (words_say-numbered number) line) (lines_say-rise (number + 1) lines)

-- what a word names
name_of-IsName : (word : List ℕ) → IfSome (name_of word) IsName
name_of-IsName word = by (name_fault word) refl where
  by : (fault : Option KeyError) → name_fault word ≡ fault → IfSome (unless_fault fault word) IsName
  by None is = is
  by (Some fault) is = tt

table_in-IsTable : (schema table : List ℕ) → IfSome (table_in schema table) IsTable
table_in-IsTable schema table = by (name_of schema) (name_of table) (name_of-IsName schema) (name_of-IsName table) where
  by : (of named : Option (List ℕ)) → IfSome of IsName → IfSome named IsName → IfSome (option_and_then (λ s. option_map (λ t. table_key s t) named) of) IsTable
  by None named h k = tt
  by (Some s) None h k = tt
  by (Some s) (Some t) h k = (refl, h, k)

table_of-IsTable : (word : List ℕ) → IfSome (table_of word) IsTable
table_of-IsTable word = by (nat_lt (position_or_len is_dot word) (length word)) where
  by : (dotted : Bool) → IfSome (cond dotted (table_in (before_first is_dot word) (after_first is_dot word)) (table_in (codes "test") word)) IsTable
  by true = table_in-IsTable (before_first is_dot word) (after_first is_dot word)
  by false = table_in-IsTable (codes "test") word

-- what holds of all that is read holds of what comes of it
and_then-with : {A B : Type 0} (Q : A → Type 0) (P : B → Type 0) (first : Result A LineError) (next : A → Result B LineError) → IfOk first Q → ((value : A) → Q value → IfOk (next value) P) → IfOk (and_then first next) P
and_then-with Q P (Ok value) next h k = k value h
and_then-with Q P (Err error) next h k = tt

or_refuse-holds : {A : Type 0} (P : A → Type 0) (error : LineError) (found : Option A) → IfSome found P → IfOk (or_refuse error found) P
or_refuse-holds P error None h = tt
or_refuse-holds P error (Some value) h = h

no_more-holds : {A : Type 0} (P : A → Type 0) (value : A) (words : List (List ℕ)) → P value → IfOk (no_more value words) P
no_more-holds P value [] h = h
no_more-holds P value (word ∷ words) h = tt

one_word-holds : {A : Type 0} (P : A → Type 0) (error : LineError) (meaning : List ℕ → Option A) → ((word : List ℕ) → IfSome (meaning word) P) → (words : List (List ℕ)) → IfOk (one_word error meaning words) P
one_word-holds P error meaning h [] = tt
one_word-holds P error meaning h (word ∷ words) =
    and_then-with P P (or_refuse error (meaning word)) (λ value. no_more value words) (or_refuse-holds P error (meaning word) (h word)) (λ value k. no_more-holds P value words k)

module _ {A : Type 0} (P Q : List A → Type 0) (adds : List A → List ℕ → Result (List A) LineError) (weaker : (values : List A) → Q values → P values) (step : (values : List A) (word : List ℕ) → P values → IfOk (adds values word) Q) where
  each_word-holds : (values : List A) (words : List (List ℕ)) → Q values → IfOk (each_word adds values words) Q
  each_word-holds values [] h = h
  each_word-holds values (word ∷ words) h = and_then-with Q Q (adds values word) (λ more. each_word adds more words) (step values word (weaker values h)) (λ more k. each_word-holds more words k)

  listed-holds : P [] → (words : List (List ℕ)) → IfOk (listed adds words) Q
  listed-holds none [] = tt
  listed-holds none (word ∷ words) = and_then-with Q Q (adds [] word) (λ more. each_word adds more words) (step [] word none) (λ more k. each_word-holds more words k)

key_eq-laws : IsEquivalence key_eq
key_eq-laws = search (comparing, rules) depth 9

abbrev FewTables : List KeyName → Type 0
FewTables tables = (length tables ≤ 8) × IsDistinct key_eq tables × All IsTable tables

next_table-holds : (tables : List KeyName) (word : List ℕ) → FewTables tables → IfOk (next_table tables word) (λ table. AreTables (tables ++ table ∷ []))
next_table-holds tables word few = by (nat_le 8 (length tables)) refl where
  new_by : (table : KeyName) → IsTable table → length tables < 8 → (named : Bool) → list_any (key_eq table) tables ≡ named → IfOk (cond named (Err BadName) (Ok table)) (λ table. AreTables (tables ++ table ∷ []))
  new_by table is room true e = tt
  new_by table is room false e =
      let long = length-append tables (table ∷ []) in
      (omega (arith, long), omega (arith, long, room), IsDistinct-push key_eq-laws tables table few.1 e, All-append IsTable tables (table ∷ []) few.2 (All-cons IsTable table [] is (All-nil IsTable)))

  by : (full : Bool) → nat_le 8 (length tables) ≡ full → IfOk (cond full (Err BadWord) (and_then (or_refuse BadName (table_of word)) (λ table. cond (list_any (key_eq table) tables) (Err BadName) (Ok table)))) (λ table. AreTables (tables ++ table ∷ []))
  by true e = tt
  by false e =
      and_then-with IsTable (λ table. AreTables (tables ++ table ∷ [])) (or_refuse BadName (table_of word)) _ (or_refuse-holds IsTable BadName (table_of word) (table_of-IsTable word))
      (λ table is. new_by table is (leb-false _ _ e) (list_any (key_eq table) tables) refl)

more_tables-hold : (tables : List KeyName) (word : List ℕ) → FewTables tables → IfOk (more_tables tables word) AreTables
more_tables-hold tables word few =
    and_then-with (λ table. AreTables (tables ++ table ∷ [])) AreTables (next_table tables word) (λ table. Ok (tables ++ table ∷ [])) (next_table-holds tables word few) (λ table are. are)

none-distinct : IsDistinct key_eq []
unfolding IsDistinct
none-distinct = tt

some_tables-hold : (words : List (List ℕ)) → IfOk (some_tables words) AreTables
some_tables-hold words = listed-holds FewTables AreTables more_tables (λ tables h. (h.1, h.2, h.3)) more_tables-hold (omega arith, none-distinct, All-nil IsTable) words

-- tables that are to be locked
abbrev AreLocks : List TableLock → Type 0
AreLocks locks = AreTables (tables_of locks)

one-lock : (locks : List TableLock) (word : List ℕ) → IfOk (more_locks locks (word ∷ [])) AreLocks
one-lock locks word = and_then-holds AreLocks (next_table (tables_of locks) word) (λ table. Err BadWord) (λ table. tt)

next-lock : (locks : List TableLock) (word behind : List ℕ) (words : List (List ℕ)) → ((more : List TableLock) → AreLocks more → IfOk (more_locks more words) AreLocks) → FewTables (tables_of locks) → IfOk (more_locks locks (word ∷ behind ∷ words)) AreLocks
next-lock locks word behind words so few =
    and_then-with (λ table. AreTables (tables_of locks ++ table ∷ [])) AreLocks (next_table (tables_of locks) word) _ (next_table-holds (tables_of locks) word few) (λ table are.
    and_then-holds AreLocks (or_refuse BadWord (lock_type_of behind)) _ (λ lock_type.
    let lock : TableLock = record { table = table; lock_type = lock_type } in
    so (locks ++ lock ∷ []) (subst AreTables (sym (map-append (λ (l : TableLock). l.table) locks (lock ∷ []))) are)))

more_locks-hold : (locks : List TableLock) (words : List (List ℕ)) → AreLocks locks → IfOk (more_locks locks words) AreLocks
more_locks-hold locks [] h = h
more_locks-hold locks (word ∷ []) h = one-lock locks word
more_locks-hold locks (word ∷ behind ∷ words) h = next-lock locks word behind words (λ more are. more_locks-hold more words are) (h.1, h.2, h.3)

some_locks-hold : (words : List (List ℕ)) → IfOk (some_locks words) AreLocks
some_locks-hold [] = tt
some_locks-hold (word ∷ []) = one-lock [] word
some_locks-hold (word ∷ behind ∷ words) = next-lock [] word behind words (λ more are. more_locks-hold more words are) (omega arith, none-distinct, All-nil IsTable)

abbrev FewColumns : List (List ℕ) → Type 0
FewColumns columns = (length columns ≤ most_columns) × All IsName columns

more_columns-hold : (columns : List (List ℕ)) (word : List ℕ) → FewColumns columns → IfOk (more_columns columns word) AreColumns
more_columns-hold columns word few = by (nat_le most_columns (length columns)) refl where
  by : (full : Bool) → nat_le most_columns (length columns) ≡ full → IfOk (cond full (Err BadWord) (and_then (or_refuse BadName (name_of word)) (λ column. Ok (columns ++ column ∷ [])))) AreColumns
  by true e = tt
  by false e =
      and_then-with IsName AreColumns (or_refuse BadName (name_of word)) _ (or_refuse-holds IsName BadName (name_of word) (name_of-IsName word))
      (λ column is. let long = length-append columns (column ∷ []) in let room = leb-false _ _ e in
      (omega (arith, long), omega (arith, long, room), All-append IsName columns (column ∷ []) few.1 (All-cons IsName column [] is (All-nil IsName))))

some_columns-hold : (words : List (List ℕ)) → IfOk (some_columns words) AreColumns
some_columns-hold words = listed-holds FewColumns AreColumns more_columns (λ columns h. (h.1, h.2)) more_columns-hold (omega arith, All-nil IsName) words

table_and_columns-hold : (words : List (List ℕ)) → IfOk (table_and_columns words) (λ named. IsTable named.0 × AreColumns named.1)
table_and_columns-hold [] = tt
table_and_columns-hold (word ∷ words) =
    and_then-with IsTable (λ named. IsTable named.0 × AreColumns named.1) (or_refuse BadName (table_of word)) _ (or_refuse-holds IsTable BadName (table_of word) (table_of-IsTable word)) (λ table is.
    and_then-with AreColumns (λ named. IsTable named.0 × AreColumns named.1) (some_columns words) (λ columns. Ok (table, columns)) (some_columns-hold words) (λ columns are. (is, are)))

-- another table than this one
abbrev IsOther : KeyName → KeyName → Type 0
IsOther table other = IsTable other × (key_eq table other ≡ false)

other_table-IsOther : (table : KeyName) (word : List ℕ) → IfSome (other_table table word) (IsOther table)
other_table-IsOther table word = by (table_of word) (table_of-IsTable word) where
  unless : (other : KeyName) → IsTable other → (same : Bool) → key_eq table other ≡ same → IfSome (cond same None (Some other)) (IsOther table)
  unless other is true e = tt
  unless other is false e = (is, e)

  by : (named : Option KeyName) → IfSome named IsTable → IfSome (option_and_then (λ other. cond (key_eq table other) None (Some other)) named) (IsOther table)
  by None is = tt
  by (Some other) is = unless other is (key_eq table other) refl

abbrev AreTwo : KeyName × KeyName → Type 0
AreTwo named = IsTable named.0 × IsTable named.1 × (key_eq named.0 named.1 ≡ false)

table_to_table-hold : (words : List (List ℕ)) → IfOk (table_to_table words) AreTwo
table_to_table-hold [] = tt
table_to_table-hold (word ∷ words) =
    and_then-with IsTable AreTwo (or_refuse BadName (table_of word)) _ (or_refuse-holds IsTable BadName (table_of word) (table_of-IsTable word)) (λ from is.
    and_then-holds AreTwo (or_refuse BadWord (behind (codes "TO" ∷ []) words)) _ (λ words_behind.
    and_then-with (IsOther from) AreTwo (one_word BadName (other_table from) words_behind) (λ to. Ok (from, to))
    (one_word-holds (IsOther from) BadName (other_table from) (other_table-IsOther from) words_behind) (λ to other. (is, other.0, other.1))))

column_and_algorithm-hold : (words : List (List ℕ)) → IfOk (column_and_algorithm words) (λ said. IsName said.0)
column_and_algorithm-hold [] = tt
column_and_algorithm-hold (word ∷ words) =
    and_then-with IsName (λ said. IsName said.0) (or_refuse BadName (name_of word)) _ (or_refuse-holds IsName BadName (name_of word) (name_of-IsName word)) (λ column is.
    and_then-holds (λ said. IsName said.0) (one_algorithm words) (λ algorithm. Ok (column, algorithm)) (λ algorithm. is))

altered_by-holds : (change : List ℕ → Change) → ((column : List ℕ) → IsName column → IsColumnChange (change column)) → (words : List (List ℕ)) → IfOk (altered_by change words) (λ said. IsColumnChange said.0)
altered_by-holds change h words =
    and_then-with (λ said. IsName said.0) (λ said. IsColumnChange said.0) (column_and_algorithm words) _ (column_and_algorithm-hold words) (λ said is. h said.0 is)

read_behind-holds : {A : Type 0} (P : A → Type 0) (reads : List (List ℕ) → Result A LineError) (rest : Option (List (List ℕ))) (others : Result A LineError) →
    ((words : List (List ℕ)) → IfOk (reads words) P) → IfOk others P → IfOk (read_behind reads rest others) P
read_behind-holds P reads (Some words) others h k = h words
read_behind-holds P reads None others h k = k

column_change-holds : (words : List (List ℕ)) → IfOk (column_change words) (λ said. IsColumnChange said.0)
column_change-holds words =
    read_behind-holds (λ said. IsColumnChange said.0) (altered_by AddColumn) (behind (codes "ADD" ∷ []) words) _ (altered_by-holds AddColumn (λ column is. is))
    (read_behind-holds (λ said. IsColumnChange said.0) (altered_by DropColumn) (behind (codes "DROP" ∷ []) words) (Err BadWord) (altered_by-holds DropColumn (λ column is. is)) tt)

abbrev IsAlteration : Alteration → Type 0
IsAlteration alteration = IsTable alteration.table × IsColumnChange alteration.change

alteration-holds : (words : List (List ℕ)) → IfOk (alteration words) IsAlteration
alteration-holds [] = tt
alteration-holds (word ∷ words) =
    and_then-with IsTable IsAlteration (or_refuse BadName (table_of word)) _ (or_refuse-holds IsTable BadName (table_of word) (table_of-IsTable word)) (λ table is.
    and_then-with (λ said. IsColumnChange said.0) IsAlteration (column_change words) _ (column_change-holds words) (λ said changes. (is, changes)))

-- the forms, each by itself
abbrev Reads : (List (List ℕ) → Result Statement LineError) → Type 0
Reads reads = (words : List (List ℕ)) → IfOk (reads words) IsWithinLimits

makes-holds : {A : Type 0} (Q : A → Type 0) (statement : A → Statement) (reads : List (List ℕ) → Result A LineError) → ((words : List (List ℕ)) → IfOk (reads words) Q) → ((value : A) → Q value → IsWithinLimits (statement value)) → Reads (makes statement reads)
makes-holds Q statement reads h k words = and_then-with Q IsWithinLimits (reads words) (λ value. Ok (statement value)) (h words) k

writes-hold : (priority : Priority) → Reads (writes priority)
writes-hold priority = makes-holds IsTable (λ table. Write table priority) one_table (one_word-holds IsTable BadName table_of table_of-IsTable) (λ table h. h)

forms-hold : AllByRecursion (λ form. Reads form.reads) forms
forms-hold =
    let name = one_word-holds IsName BadName name_of name_of-IsName in (
      λ words. no_more-holds IsWithinLimits Begin words tt,
      (
        λ words. no_more-holds IsWithinLimits Begin words tt,
        (
          λ words. no_more-holds IsWithinLimits Commit words tt,
          (
            makes-holds IsName RollbackTo one_name name (λ value h. h),
            (
              λ words. no_more-holds IsWithinLimits Rollback words tt,
              (
                makes-holds IsName Savepoint one_name name (λ value h. h),
                (
                  makes-holds AreTables Select some_tables some_tables-hold (λ value h. h),
                  (
                    writes-hold Low,
                    (
                      writes-hold Normal,
                      (
                        writes-hold Low,
                        (
                          writes-hold Normal,
                          (
                            writes-hold Low,
                            (
                              writes-hold Normal,
                              (
                                makes-holds (λ named. IsTable named.0 × AreColumns named.1) (λ named. CreateTable named.0 named.1) table_and_columns table_and_columns-hold (λ value h. h),
                                (
                                  makes-holds IsName CreateSchema one_name name (λ value h. h),
                                  (
                                    makes-holds AreTables DropTables some_tables some_tables-hold (λ value h. h),
                                    (
                                      makes-holds IsName DropSchema one_name name (λ value h. h),
                                      (
                                        makes-holds AreTwo (λ named. RenameTable named.0 named.1) table_to_table table_to_table-hold (λ value h. h),
                                        (
                                          makes-holds IsAlteration AlterTable alteration alteration-holds (λ value h. h),
                                          (
                                            makes-holds AreLocks LockTables some_locks some_locks-hold (λ value h. h),
                                            (
                                              λ words. no_more-holds IsWithinLimits UnlockTables words tt,
                                              (
                                                λ words. no_more-holds IsWithinLimits FlushTablesWithReadLock words tt,
                                                (
                                                  makes-holds IsScriptSession KillQuery one_session (one_word-holds IsScriptSession BadSession session_of session_of-IsScriptSession) (λ value h. h),
                                                  (
                                                    λ words. no_more-holds IsWithinLimits Timeout words tt,
                                                    (
                                                      makes-holds IsName GetLock one_name name (λ value h. h),
                                                      (makes-holds IsName ReleaseLock one_name name (λ value h. h), tt),
                                                    ),
                                                  ),
                                                ),
                                              ),
                                            ),
                                          ),
                                        ),
                                      ),
                                    ),
                                  ),
                                ),
                              ),
                            ),
                          ),
                        ),
                      ),
                    ),
                  ),
                ),
              ),
            ),
          ),
        ),
      ),
    )

read_by-holds : (form : Form) (rest : Option (List (List ℕ))) (others : Result Statement LineError) → Reads form.reads → IfOk others IsWithinLimits → IfOk (read_by form rest others) IsWithinLimits
read_by-holds form (Some words) others h k = h words
read_by-holds form None others h k = k

says_in-holds : (all : List Form) → AllByRecursion (λ form. Reads form.reads) all → (words : List (List ℕ)) → IfOk (says_in all words) IsWithinLimits
says_in-holds [] h words = tt
says_in-holds (form ∷ more) h words = read_by-holds form (behind form.key_words words) (says_in more words) h.0 (says_in-holds more h.1 words)

abbrev IsLimited : Line → Type 0
IsLimited line = IsScriptSession line.session × IsWithinLimits line.statement

words_say-limited : (number : ℕ) (words : List (List ℕ)) → IfOk (words_say number words) (λ said. IfSome said IsLimited)
words_say-limited number [] = tt
words_say-limited number (word ∷ words) =
    and_then-with IsScriptSession (λ said. IfSome said IsLimited) (or_refuse BadSession (session_of word)) _ (or_refuse-holds IsScriptSession BadSession (session_of word) (session_of-IsScriptSession word)) (λ session is.
    and_then-with IsWithinLimits (λ said. IfSome said IsLimited) (statement_of words) _ (says_in-holds forms forms-hold words) (λ statement within. (is, within)))

before-limited : (number : ℕ) (said : Result (Option Line) LineError) (rest : Result (List Line) (ℕ × LineError)) → IfOk said (λ said. IfSome said IsLimited) → IfOk rest (All IsLimited) → IfOk (said_before number said rest) (All IsLimited)
before-limited number (Err error) rest h k = tt
before-limited number (Ok None) rest h k = k
before-limited number (Ok (Some line)) (Ok lines) h k = All-cons IsLimited line lines h k
before-limited number (Ok (Some line)) (Err refusal) h k = tt

pub lines_say-limited : (number : ℕ) (lines : List (List ℕ)) → IfOk (lines_say number lines) (All IsLimited)
lines_say-limited number [] = All-nil IsLimited
lines_say-limited number (line ∷ lines) =
    before-limited number (line_says number line) (lines_say (number + 1) lines) (said_by-holds IsLimited (words_say number) (words_say-limited number) line) (lines_say-limited (number + 1) lines)
