-- A command that a script gives is of a session.
use Rattle.std.proofs.Common.{ℕ, List, [], ◌∷◌}
use Rattle.std.specs.Prelude.{Option, Some, None, IfSome, IfOk}
use Rattle.std.specs.List.{All}
use Rattle.mdl_key.specs.declared.namespace.Kind.{Kind}
use Rattle.mdl_lines.specs.Lines.{lines_of}
use Rattle.mdl_lines.specs.Sessions.{IsScriptSession, session_of}
use Rattle.mdl_lines.proofs.ScriptLemmas.{all_said-hold, said_by-holds}
use Rattle.mdl_lines.proofs.Sessions.{session_of-IsScriptSession}
use Rattle.mdl_lock.specs.declared.script_command.Action.{Action}
use Rattle.mdl_lock.specs.Locks.{IsNumbered}
use Rattle.mdl_lock.specs.Scripts.{action_in, command_of, line_says, parsed, words_say}

command_of-session : (session : Option ℕ) (action : Option Action) → IfSome session IsScriptSession → IfOk (command_of session action) (λ said. IfSome said IsNumbered)
command_of-session None action h = tt
command_of-session (Some session) None h = tt
command_of-session (Some session) (Some action) h = h

words_say-session : (kind : Kind) (words : List (List ℕ)) → IfOk (words_say kind words) (λ said. IfSome said IsNumbered)
words_say-session kind [] = tt
words_say-session kind (first ∷ words) = command_of-session (session_of first) (action_in kind words) (session_of-IsScriptSession first)

pub parsed-sessions : (kind : Kind) (text : List ℕ) → IfOk (parsed kind text) (All IsNumbered)
parsed-sessions kind text = all_said-hold IsNumbered (line_says kind) (said_by-holds IsNumbered (words_say kind) (words_say-session kind)) 1 (lines_of text)
