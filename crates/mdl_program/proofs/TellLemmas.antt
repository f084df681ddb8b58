-- What a run on threads leaves written.
use Rattle.std.proofs.Common.{ℕ, List, Option, Result, Ok, Err}
use Rattle.std.specs.Io.KnownBytes.{Appends}
use Rattle.mdl_lines.specs.declared.fault.Fault.TheVariants.{Write}
use Rattle.mdl_lines.specs.declared.fault.LineError.{LineError}
use Rattle.mdl_lines.specs.Words.{AppendsPart}
use Rattle.mdl_syntax.specs.declared.script.Line.{Line}
use Rattle.mdl_script.specs.Answers.{Options}
use Rattle.mdl_program.specs.Threads.{IsThreadsText, ThreadsLeave}

-- all of what was told was written
pub leaves_told : (options : Options) (said : Result (List Line) (ℕ × LineError)) (text : List ℕ) (old new : Option (List ℕ)) → IsThreadsText options said text → Appends old new text
    → ThreadsLeave options said (Ok (tt {0})) old new
leaves_told options said text old new told written = (text, told, written)

-- a part of it
pub leaves_part : (options : Options) (said : Result (List Line) (ℕ × LineError)) (text : List ℕ) (old new : Option (List ℕ)) → IsThreadsText options said text → AppendsPart old new text
    → ThreadsLeave options said (Err Write) old new
leaves_part options said text old new told written = (text, told, written)
