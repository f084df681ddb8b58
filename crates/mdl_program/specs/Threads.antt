-- What is written of a script that is played with a thread for each session. The answers may differ from run to run.
use Rattle.std.specs.Prelude.{ℕ, List, Option, Result, Ok, Err}
use Rattle.std.specs.Io.KnownBytes.{Appends, Keeps}
use Rattle.mdl_lines.specs.declared.fault.Fault.{Fault}
use Rattle.mdl_lines.specs.declared.fault.Fault.TheVariants.{Refused, Memory, Read, Write}
use Rattle.mdl_lines.specs.declared.fault.LineError.{LineError}
use Rattle.mdl_lines.specs.Words.{AppendsPart}
use Rattle.mdl_syntax.specs.declared.script.Line.{Line}
use Rattle.mdl_script.specs.Answers.{Options}
use Rattle.mdl_script.specs.Runs.{IsRunOf}

-- a text that may be written for a script that says this, played with these options: the text of a run of its lines
abbrev pub IsThreadsText : Options → Result (List Line) (ℕ × LineError) → List ℕ → Type 0
IsThreadsText options (Ok lines) text = IsRunOf options lines text
IsThreadsText options (Err refusal) text = ⊥

-- what a run that ends so leaves written: the text of a run after success, a part of one if writing failed, otherwise nothing
abbrev pub ThreadsLeave : Options → Result (List Line) (ℕ × LineError) → Result (Unit {0}) Fault → Option (List ℕ) → Option (List ℕ) → Type 0
ThreadsLeave options said (Ok done) old new = (text : List ℕ) × IsThreadsText options said text × Appends old new text
ThreadsLeave options said (Err Write) old new = (text : List ℕ) × IsThreadsText options said text × AppendsPart old new text
ThreadsLeave options said (Err (Refused line error)) old new = Keeps old new
ThreadsLeave options said (Err Memory) old new = Keeps old new
ThreadsLeave options said (Err Read) old new = Keeps old new
