-- What the words of a line name. The script language is this project's own.
use Rattle.std.specs.Prelude.{ℕ, Bool, ◌==◌, nat_lt, List, length, codes, Option, Some, None, if◌then◌else◌}
use Rattle.std.specs.Option.{option_and_then, option_map}
use Rattle.std.specs.List.{position_or_len, before_first, after_first}
use Rattle.mdl_key.specs.declared.key_error.KeyError.{KeyError}
use Rattle.mdl_key.specs.Keys.{KeyName, name_fault, table_key}

-- the text, if it has no fault
abbrev pub unless_fault : Option KeyError → List ℕ → Option (List ℕ)
unless_fault None text = Some text
unless_fault (Some fault) text = None

-- the word as a name, if it is one: 1 to `longest_name` bytes of a-z, 0-9 and _
abbrev pub name_of : List ℕ → Option (List ℕ)
name_of word = unless_fault (name_fault word) word

-- the table of this name in this schema, if both are names
abbrev pub table_in : List ℕ → List ℕ → Option KeyName
table_in schema table = option_and_then (λ of. option_map (λ named. table_key of named) (name_of table)) (name_of schema)

-- whether a byte is a dot
abbrev pub is_dot : ℕ → Bool
is_dot byte = byte == 46

-- the table that a word names: a schema and a table with a dot between them, or a table alone, which is in the schema test
abbrev pub table_of : List ℕ → Option KeyName
table_of word =
    if nat_lt (position_or_len is_dot word) (length word) then table_in (before_first is_dot word) (after_first is_dot word)
    else table_in (codes "test") word
