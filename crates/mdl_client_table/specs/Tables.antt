-- A table as a client of a MySQL server prints it: the names of its columns, and its rows. How it is printed is said in the files of its forms.
use Rattle.std.specs.Prelude.{ℕ, ◌==◌, List, [], ◌∷◌, ◌++◌, length, codes, slice_get, unwrap_or, if◌then◌else◌}
use Rattle.mdl_lines.specs.Words.{same_text}

-- a row: the number of its first line in the text, counted from 1, and its fields. A field is empty if it is NULL
pub record RowText : Type 0 where
  pub line : ℕ
  pub fields : List (List ℕ)

-- a table. It has no names if the text has no header
pub record TableText : Type 0 where
  pub names : List (List ℕ)
  pub rows : List RowText

-- a table without a header and without rows
abbrev pub no_table : TableText
no_table = record { names = []; rows = [] }

-- a row of this line
abbrev pub row_at : ℕ → List (List ℕ) → RowText
row_at number fields = record { line = number; fields = fields }

-- a table with one more row
abbrev pub with_row : ℕ → List (List ℕ) → TableText → TableText
with_row number fields table = record table { rows = table.rows ++ row_at number fields ∷ [] }

-- a table with one more line of fields: the first such line has the names of the columns
abbrev pub with_fields : ℕ → List (List ℕ) → TableText → TableText
with_fields number fields table = if length table.names == 0 then record table { names = fields } else with_row number fields table

-- a value as it is printed. NULL is printed as this word
abbrev pub value_of : List ℕ → List ℕ
value_of text = if same_text text (codes "NULL") then [] else text

-- a list with its last element changed
abbrev pub changed_last : {A : Type 0} → (A → A) → List A → List A
changed_last change [] = []
changed_last change (one ∷ []) = change one ∷ []
changed_last change (one ∷ next ∷ list) = one ∷ changed_last change (next ∷ list)

-- a row whose last field goes on in a line
abbrev pub continued_row : List ℕ → RowText → RowText
continued_row line row = record row { fields = changed_last (λ field. field ++ 10 ∷ line) row.fields }

-- a table whose last row goes on in a line
abbrev pub continued_table : List ℕ → TableText → TableText
continued_table line table = record table { rows = changed_last (continued_row line) table.rows }

-- the first field of a row
abbrev pub first_field : RowText → List ℕ
first_field row = unwrap_or (slice_get row.fields 0) []
