-- The defined output of a lock script, and what is true of the lock meanwhile. The script language is this project's own.
use Rattle.std.specs.Prelude.{◌≡◌, ℕ, false, List, [], Result, Ok, Err, All, take, ⊤}
use Rattle.mdl_key.specs.declared.namespace.Kind.{Kind}
use Rattle.mdl_book.specs.Granting.{IsLawful}
use Rattle.mdl_lock.specs.declared.script_command.ScriptCommand.{ScriptCommand}
use Rattle.mdl_lines.specs.declared.fault.LineError.{LineError}
use Rattle.mdl_lock.specs.Answering.{text_of}
use Rattle.mdl_lock.specs.Answers.{Lock, free_lock, grantable_in, all_obeyed}
use Rattle.mdl_lock.specs.Scripts.{parsed}

-- what is written for a script that was read: the answers, a line each, or nothing if a line is refused
abbrev pub output_for : Kind → Result (List ScriptCommand) (ℕ × LineError) → List ℕ
output_for kind (Ok commands) = text_of (all_obeyed kind commands free_lock).answers
output_for kind (Err refusal) = []

-- the defined output of a lock script
abbrev pub lock_output_of : Kind → List ℕ → List ℕ
lock_output_of kind text = output_for kind (parsed kind text)

-- the granted tickets are lawful after every command
abbrev pub IsLawfulThroughout : Kind → List ScriptCommand → Type 0
IsLawfulThroughout kind commands = (n : ℕ) → IsLawful kind (all_obeyed kind (take n commands) free_lock).lock.granted

-- the same for a script as it was read. One that is refused executes no command
abbrev pub StaysLawful : Kind → Result (List ScriptCommand) (ℕ × LineError) → Type 0
StaysLawful kind (Ok commands) = IsLawfulThroughout kind commands
StaysLawful kind (Err refusal) = ⊤

-- no waiter is forgotten: no ticket is left waiting that could be granted
abbrev pub ForgetsNobody : Kind → Lock → Type 0
ForgetsNobody kind lock = All (λ ticket. grantable_in kind lock ticket.session ticket.mode ≡ false) lock.waiting

-- no waiter is forgotten after any command
abbrev pub ForgetsNobodyThroughout : Kind → List ScriptCommand → Type 0
ForgetsNobodyThroughout kind commands = (n : ℕ) → ForgetsNobody kind (all_obeyed kind (take n commands) free_lock).lock

-- the same for a script as it was read. One that is refused executes no command
abbrev pub NeverForgets : Kind → Result (List ScriptCommand) (ℕ × LineError) → Type 0
NeverForgets kind (Ok commands) = ForgetsNobodyThroughout kind commands
NeverForgets kind (Err refusal) = ⊤
