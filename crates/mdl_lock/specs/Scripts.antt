-- What the lines of a lock script say: a session, and a mode to request, RELEASE or TIMEOUT. The script language is this
-- project's own.
use Rattle.std.specs.Prelude.{ℕ, List, [], ◌∷◌, codes, Option, Some, None, Result, Ok, Err, filter, find, option_and_then, if◌then◌else◌}
use Rattle.std.specs.Option.{option_map}
use Rattle.mdl_key.specs.declared.namespace.Kind.{Kind}
use Rattle.mdl_key.specs.declared.mode.Mode.{Mode}
use Rattle.mdl_key.specs.Modes.{all_modes, is_mode_of, mode_name}
use Rattle.mdl_lines.specs.declared.fault.LineError.{LineError}
use Rattle.mdl_lines.specs.declared.fault.LineError.TheVariants.{BadSession, BadWord}
use Rattle.mdl_lines.specs.Words.{only, said_by, same_text, script_by, session_of}
use Rattle.mdl_lock.specs.declared.script_command.Action.{Action}
use Rattle.mdl_lock.specs.declared.script_command.Action.TheVariants.{Ask, Release, Timeout}
use Rattle.mdl_lock.specs.declared.script_command.ScriptCommand.{ScriptCommand}

-- the modes that a script may request of a lock of this kind: all that the kind uses
abbrev pub modes_taken : Kind → List Mode
modes_taken kind = filter (is_mode_of kind) all_modes

-- the action that the word after the session names
abbrev pub action_of : Kind → List ℕ → Option Action
action_of kind word =
    if same_text word (codes "RELEASE") then Some Release
    else (if same_text word (codes "TIMEOUT") then Some Timeout
    else option_map (λ mode. Ask mode) (find (λ mode. same_text word (mode_name mode)) (modes_taken kind)))

-- the action that the words after the session name, if there is just one word
abbrev pub action_in : Kind → List (List ℕ) → Option Action
action_in kind words = option_and_then (action_of kind) (only words)

-- the command of a session and an action, each of which may be misspelled. The session is checked first
abbrev pub command_of : Option ℕ → Option Action → Result (Option ScriptCommand) LineError
command_of None action = Err BadSession
command_of (Some session) None = Err BadWord
command_of (Some session) (Some action) = Ok (Some (record { session = session; action = action }))

-- what the words of a line say, read from left to right. A line without words says nothing
abbrev pub words_say : Kind → List (List ℕ) → Result (Option ScriptCommand) LineError
words_say kind [] = Ok None
words_say kind (first ∷ words) = command_of (session_of first) (action_in kind words)

-- what a line says
abbrev pub line_says : Kind → List ℕ → Result (Option ScriptCommand) LineError
line_says kind = said_by (words_say kind)

-- the commands of a script, or its first refused line with its error
abbrev pub parsed : Kind → List ℕ → Result (List ScriptCommand) (ℕ × LineError)
parsed kind = script_by (line_says kind)
