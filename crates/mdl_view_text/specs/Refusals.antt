-- The texts that say which word of a script is refused, and why. The wording is this project's own.
use Rattle.std.specs.Prelude.{ℕ, List, ◌++◌, codes}
use Rattle.std.specs.Fmt.{decimal}
use Rattle.mdl_view_text.specs.Json.{json_string}
use Rattle.mdl_view_text.specs.Layouts.{line_of, line_with}

-- the text for a refused word. Lines and words are counted from 1
abbrev pub refused_word : ℕ → ℕ → List ℕ → List ℕ → List ℕ
refused_word line number word reason =
    line_with (codes "line " ++ decimal line ++ codes ", word " ++ decimal number ++ codes ": ") (json_string word) reason

-- the text for a refused line
abbrev pub refused_line : ℕ → List ℕ → List ℕ
refused_line line reason = line_of (codes "line " ++ decimal line ++ codes ": " ++ reason)
