-- The graph of waits in Graphviz's DOT language, by its page "DOT Language".
use Rattle.std.specs.Prelude.{ℕ, ◌||◌, ◌==◌, List, [], ◌∷◌, ◌++◌, codes, flat_map, if◌then◌else◌}
use Rattle.mdl_view.specs.declared.blocking.Blocking.{Blocking}
use Rattle.mdl_view_text.specs.Names.{NamesView, lock_name, session_text}
use Rattle.mdl_view_text.specs.Rows.{reason_text}

-- a byte within quotes: a quote and a backslash have a backslash before them
abbrev pub quoted_byte : ℕ → List ℕ
quoted_byte byte = if byte == 34 || byte == 92 then 92 ∷ byte ∷ [] else byte ∷ []

abbrev pub quoted : List ℕ → List ℕ
quoted text = flat_map quoted_byte text

-- a session as a node
abbrev pub node : NamesView → ℕ → List ℕ
node names session = 34 ∷ session_text names session ++ 34 ∷ []

-- the lock and the reason, beside an arrow
abbrev pub label : NamesView → Blocking → List ℕ
label names blocking =
    codes " [label=" ++ 34 ∷ quoted (lock_name names blocking.lock) ++ codes ": " ++ reason_text blocking.reason blocking.other.mode
    ++ 34 ∷ codes "];" ++ 10 ∷ []

-- an arrow from a waiter to a session that blocks it
abbrev pub arrow : NamesView → Blocking → List ℕ
arrow names blocking = codes "  " ++ node names blocking.waiter.session ++ codes " -> " ++ node names blocking.other.session ++ label names blocking

abbrev pub graph_text : NamesView → List Blocking → List ℕ
graph_text names blockings = codes "digraph waits {" ++ 10 ∷ flat_map (arrow names) blockings ++ 125 ∷ 10 ∷ []
