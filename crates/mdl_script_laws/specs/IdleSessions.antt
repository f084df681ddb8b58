-- Sessions of a script between their statements, after MySQL 5.7: the Reference Manual, "Metadata Locking", by which locks are held to
-- the end of the transaction, and to the end of the statement where none is open.
use Rattle.std.specs.Prelude.{◌≡◌, ℕ, false, List, Ok, take}
use Rattle.mdl_lines.specs.Sessions.{IsScriptSession}
use Rattle.mdl_syntax.specs.declared.script.Line.{Line}
use Rattle.mdl_syntax.specs.Scripts.{parsed}
use Rattle.mdl_script.specs.Worlds.{player_at, script_played, session_waits}
use Rattle.mdl_script_laws.specs.RefusalsFirst.{IsTidy}

-- after any number of a script's lines, each session that doesn't wait keeps no ticket for a statement. Unless a transaction is open, it
-- keeps none for a transaction, and has both tickets of the global read lock or none. It knows no place but those where it has something
abbrev pub IdleSessionsAreTidy : Type 0
IdleSessionsAreTidy =
    (text : List ℕ) (lines : List Line) → parsed text ≡ Ok lines → (n who : ℕ) → IsScriptSession who →
    let world = (script_played (take n lines)).world in session_waits world who ≡ false → IsTidy (player_at who world).session
