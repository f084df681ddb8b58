-- The words of statements, as the text of a script has them.
use Rattle.std.specs.Prelude.{ℕ, List, drop, codes}
use Rattle.std.specs.List.{join_by}
use Rattle.mdl_lines.specs.Words.{line_at, words_of}

-- words, separated by single blanks
abbrev pub joined : List (List ℕ) → List ℕ
joined words = join_by (λ word. word) (codes " ") words

-- the statement of a line: its words after that of its session
abbrev pub statement_words : List ℕ → List ℕ
statement_words line = joined (drop 1 (words_of line))

-- the statement of the line of this number, counted from 1
abbrev pub statement_at : List ℕ → ℕ → List ℕ
statement_at text number = statement_words (line_at text number)
