-- Scripts and deadlocks: there is none once a line is answered. That a session searches for deadlocks as it begins to wait, until it is
-- part of none, is after MySQL 5.7: `MDL_context::acquire_lock` of sql/mdl.cc.
use Rattle.std.specs.Prelude.{◌≡◌, ℕ, List, take, Ok}
use Rattle.mdl_core.specs.CoreSystems.{system_of}
use Rattle.mdl_syntax.specs.declared.script.Line.{Line}
use Rattle.mdl_syntax.specs.Scripts.{parsed}
use Rattle.mdl_script.specs.Worlds.{script_played}
use Rattle.mdl_system.specs.Deadlocks.{HasNoDeadlock}

-- after any number of a script's lines, and the turns that follow each, there is no deadlock: no sessions wait each for the next, and the
-- last for the first
abbrev pub NoDeadlockStands : Type 0
NoDeadlockStands =
    (text : List ℕ) (lines : List Line) → parsed text ≡ Ok lines → (n : ℕ) → HasNoDeadlock (system_of (script_played (take n lines)).world.core)
