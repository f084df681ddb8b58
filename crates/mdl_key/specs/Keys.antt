-- The names of locks, after MySQL 5.7: `MDL_key` of sql/mdl.h. Which bytes a name can have is this project's own choice.
use Rattle.std.specs.Prelude.{ℕ, Bool, not, ◌&&◌, ◌||◌, List, [], ◌++◌, length, codes, ◌==◌, nat_lt, nat_le, if◌then◌else◌, Option, Some, None, position}
use Rattle.std.specs.Option.{option_map, option_or}
use Rattle.std.specs.Ordering.{nat_cmp, on, then_cmp, eq_of_both}
use lib.Pointwise.{pointwise}
use Rattle.std.specs.Cmp.Lexicographic.{slice_cmp}
use Rattle.std.specs.declared.cmp.Ordering.{Ordering}
use Rattle.mdl_key.specs.declared.namespace.Namespace.{Namespace}
use Rattle.mdl_key.specs.declared.namespace.Namespace.TheVariants.{Global, Schema, Table, Commit, UserLevelLock}
use Rattle.mdl_key.specs.declared.key_error.KeyError.{KeyError}
use Rattle.mdl_key.specs.declared.key_error.KeyError.TheVariants.{EmptyName, LongName, BadByte}
use Rattle.mdl_key.specs.declared.key_error.Utf8NameError.{Utf8NameError}
use Rattle.mdl_key.specs.declared.key_error.Utf8NameError.TheVariants as utf8
use Rattle.mdl_key.specs.Limits.{longest_name, longest_utf8_name}

-- whether a byte can be part of a name: a letter from a to z, a digit, or an underscore
abbrev pub is_name_byte : ℕ → Bool
is_name_byte b = (nat_le 97 b && nat_le b 122) || (nat_le 48 b && nat_le b 57) || b == 95

-- why a text isn't a name, if it isn't: a name has only such bytes, at least one and at most `longest_name`
abbrev pub name_fault : List ℕ → Option KeyError
name_fault text =
    if length text == 0 then Some EmptyName
    else (if nat_lt longest_name (length text) then Some LongName else option_map (λ at. BadByte at) (position (λ b. not (is_name_byte b)) text))

-- why a text isn't a name where a name may be any text, if it isn't: it has at least one byte and at most `longest_utf8_name`
abbrev pub utf8_name_fault : List ℕ → Option Utf8NameError
utf8_name_fault text =
    if length text == 0 then Some utf8.EmptyName
    else (if nat_lt longest_utf8_name (length text) then Some utf8.LongName else None)

-- the value of a key: its namespace, and the names of its schema and its table if it has them
pub record KeyName : Type 0 where
  pub namespace : Namespace
  pub schema : List ℕ
  pub table : List ℕ

-- the key of the global read lock
abbrev pub global_key : KeyName
global_key = record { namespace = Global; schema = []; table = [] }

-- the key that commits take
abbrev pub commit_key : KeyName
commit_key = record { namespace = Commit; schema = []; table = [] }

-- the key of a schema
abbrev pub schema_key : List ℕ → KeyName
schema_key schema = record { namespace = Schema; schema = schema; table = [] }

-- the key of a table
abbrev pub table_key : List ℕ → List ℕ → KeyName
table_key schema table = record { namespace = Table; schema = schema; table = table }

-- the key of a user-level lock, which has one name
abbrev pub user_lock_key : List ℕ → KeyName
user_lock_key name = record { namespace = UserLevelLock; schema = name; table = [] }

-- the fault of a table's two names: the schema's name is checked first
abbrev pub table_fault : List ℕ → List ℕ → Option KeyError
table_fault schema table = option_or (name_fault schema) (name_fault table)

-- the fault of a table's two names that may be any texts: the schema's name is checked first
abbrev pub utf8_table_fault : List ℕ → List ℕ → Option Utf8NameError
utf8_table_fault schema table = option_or (utf8_name_fault schema) (utf8_name_fault table)

-- the place of a namespace in the order of keys
abbrev pub namespace_rank : Namespace → ℕ
namespace_rank Global = 0
namespace_rank Schema = 1
namespace_rank Table = 2
namespace_rank Commit = 3
namespace_rank UserLevelLock = 4

-- keys are ordered by namespace, then by the bytes of the schema, then by those of the table
abbrev pub key_cmp : KeyName → KeyName → Ordering
key_cmp =
    then_cmp (on (λ k. namespace_rank k.namespace) nat_cmp)
    (then_cmp (on (λ k. k.schema) (slice_cmp nat_cmp))
    (on (λ k. k.table) (slice_cmp nat_cmp)))

-- keys are equal if their namespaces, schemas and tables are
abbrev pub key_eq : KeyName → KeyName → Bool
key_eq =
    eq_of_both (on (λ k. namespace_rank k.namespace) ◌==◌)
    (eq_of_both (on (λ k. k.schema) (pointwise ◌==◌))
    (on (λ k. k.table) (pointwise ◌==◌)))

-- a key as it is printed: GLOBAL, SCHEMA s, TABLE s.t, COMMIT or USER n
abbrev pub key_text : KeyName → List ℕ
key_text key = text_in key.namespace where
  text_in : Namespace → List ℕ
  text_in Global = codes "GLOBAL"
  text_in Schema = codes "SCHEMA " ++ key.schema
  text_in Table = codes "TABLE " ++ key.schema ++ codes "." ++ key.table
  text_in Commit = codes "COMMIT"
  text_in UserLevelLock = codes "USER " ++ key.schema
