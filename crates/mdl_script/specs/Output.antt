-- The defined output of a script. The script language is this project's own.
use Rattle.std.specs.Prelude.{ℕ, Bool, nat_lt, List, [], ◌++◌, flat_map, take, Result, Ok, Err, ⊤}
use Rattle.std.specs.List.{before_first}
use Rattle.mdl_core.specs.CoreSystems.{system_of}
use Rattle.mdl_lines.specs.declared.fault.LineError.{LineError}
use Rattle.mdl_syntax.specs.declared.script.Line.{Line}
use Rattle.mdl_syntax.specs.Scripts.{parsed}
use Rattle.mdl_system.specs.Systems.{IsLawful, NoneForgotten}
use Rattle.mdl_script.specs.Texts.{told_text, end_line}
use Rattle.mdl_script.specs.Worlds.{Scene, script_played, waiting_in}

-- the text of a played script: a line for each thing that became of its lines, and one for each session that still waits
abbrev pub scene_text : Scene → List ℕ
scene_text scene = told_text scene.told ++ flat_map end_line (waiting_in scene.world)

-- what is written for a script that was read: nothing if a line is refused
abbrev pub output_for : Result (List Line) (ℕ × LineError) → List ℕ
output_for (Ok lines) = scene_text (script_played lines)
output_for (Err refusal) = []

-- the defined output of a script, given as bytes
abbrev pub output_of : List ℕ → List ℕ
output_of text = output_for (parsed text)

-- no two sessions hold locks that clash, after any line
abbrev pub IsLawfulThroughout : List Line → Type 0
IsLawfulThroughout lines = (n : ℕ) → IsLawful (system_of (script_played (take n lines)).world.core)

-- the same for a script as it was read. One that is refused is not played
abbrev pub StaysLawful : Result (List Line) (ℕ × LineError) → Type 0
StaysLawful (Ok lines) = IsLawfulThroughout lines
StaysLawful (Err refusal) = ⊤

-- no session is left waiting for a lock that could be granted, after any line
abbrev pub ForgetsNobodyThroughout : List Line → Type 0
ForgetsNobodyThroughout lines = (n : ℕ) → NoneForgotten (system_of (script_played (take n lines)).world.core)

-- the same for a script as it was read. One that is refused is not played
abbrev pub NeverForgets : Result (List Line) (ℕ × LineError) → Type 0
NeverForgets (Ok lines) = ForgetsNobodyThroughout lines
NeverForgets (Err refusal) = ⊤

-- whether a line comes after the one of this number
abbrev pub is_after : ℕ → Line → Bool
is_after last line = nat_lt last line.number

-- the lines up to the one of this number
abbrev pub lines_until : ℕ → List Line → List Line
lines_until last lines = before_first (is_after last) lines
