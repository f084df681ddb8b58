-- The key words with which a statement begins.
use Rattle.std.specs.Prelude.{ℕ, List, [], ◌∷◌, Option, Some, None, if◌then◌else◌}
use Rattle.mdl_lines.specs.Lines.{same_text}

-- the words after these key words, if a statement begins with them
abbrev pub behind : List (List ℕ) → List (List ℕ) → Option (List (List ℕ))
behind [] words = Some words
behind (key_word ∷ key_words) [] = None
behind (key_word ∷ key_words) (word ∷ words) = if same_text word key_word then behind key_words words else None
