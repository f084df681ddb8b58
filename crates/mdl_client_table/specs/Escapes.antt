-- How the client escapes values between tabs, after MySQL 5.7: `safe_put_field` of client/mysql.cc. How other bytes behind a backslash are read is this
-- project's own choice.
use Rattle.std.specs.Prelude.{◌≡◌, ℕ, Bool, true, false, not, ◌&&◌, ◌==◌, List, [], ◌∷◌, ◌++◌, codes, flat_map, if◌then◌else◌}
use Rattle.mdl_lines.specs.Words.{same_text}

-- a byte as the client writes it: NUL, tab, line feed and backslash are escaped
abbrev pub escaped_byte : ℕ → List ℕ
escaped_byte byte =
    if byte == 0 then codes "\\0"
    else (if byte == 9 then codes "\\t" else (if byte == 10 then codes "\\n" else (if byte == 92 then codes "\\\\" else byte ∷ [])))

-- a name as the client writes it
abbrev pub escaped : List ℕ → List ℕ
escaped name = flat_map escaped_byte name

-- what a byte after a backslash stands for. If the client doesn't write such an escape, both bytes are kept
abbrev pub meant_by : ℕ → List ℕ
meant_by byte =
    if byte == 48 then 0 ∷ []
    else (if byte == 116 then 9 ∷ [] else (if byte == 110 then 10 ∷ [] else (if byte == 92 then 92 ∷ [] else 92 ∷ byte ∷ [])))

-- the bytes of the name that a byte stands for, given whether it is escaped
abbrev pub written_by : Bool → ℕ → List ℕ
written_by true byte = meant_by byte
written_by false byte = if byte == 92 then [] else byte ∷ []

-- what the end of a field stands for: a backslash, if the last byte was one that escapes
abbrev pub kept_at_end : Bool → List ℕ
kept_at_end true = 92 ∷ []
kept_at_end false = []

-- the bytes of a name that is written so, given whether the first byte is escaped. A backslash that isn't escaped itself escapes the byte after
-- it
abbrev pub unescaped_from : Bool → List ℕ → List ℕ
unescaped_from is_escaped [] = kept_at_end is_escaped
unescaped_from is_escaped (byte ∷ bytes) = written_by is_escaped byte ++ unescaped_from (not is_escaped && byte == 92) bytes

-- the bytes of a name that is written so
abbrev pub unescaped : List ℕ → List ℕ
unescaped field = unescaped_from false field

-- the value in a field: empty if the field is NULL
abbrev pub name_of : List ℕ → List ℕ
name_of field = if same_text field (codes "NULL") then [] else unescaped field

-- a name that is escaped and then unescaped is the same name
abbrev pub NamesComeBack : Type 0
NamesComeBack = (name : List ℕ) → unescaped (escaped name) ≡ name
