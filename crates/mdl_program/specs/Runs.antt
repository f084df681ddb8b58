-- What the runs of the program have to write, how they may end, and with which status.
use Rattle.std.specs.Prelude.{⊤, ℕ, List, Option, Some, None, IfSome, Result, Ok, Err}
use Rattle.std.specs.Option.{option_map}
use Rattle.std.specs.Io.KnownBytes.{Appends}
use Rattle.mdl_explain.specs.Explanations as told
use Rattle.mdl_lines.specs.declared.fault.Fault.{Fault}
use Rattle.mdl_lines.specs.declared.fault.Fault.TheVariants.{Refused, Memory, Read, Write}
use Rattle.mdl_lines.specs.Words.{LeavesWritten, MayEnd, fault_status}
use Rattle.mdl_lock.specs.MatrixText.{matrix_text}
use Rattle.mdl_lock.specs.Output.{lock_output_of}
use Rattle.mdl_lock.specs.Scripts as commands
use Rattle.mdl_script.specs.Answers.{options_of}
use Rattle.mdl_script.specs.Output as played
use Rattle.mdl_stmt.specs.Attendance.{IsCapacity}
use Rattle.mdl_syntax.specs.Scripts as statements
use Rattle.mdl_program.specs.Threads.{ThreadsLeave}
use Rattle.mdl_program.specs.declared.program.Run.{Run}
use Rattle.mdl_program.specs.declared.program.Run.TheVariants.{Lock, Matrix, Replay, Explain, Threads}

-- the run is valid: its cache has a capacity that a cache may have
abbrev pub IsRun : Run → Type 0
IsRun (Threads patience cache) = IsCapacity cache
IsRun (Lock kind) = ⊤
IsRun Matrix = ⊤
IsRun Replay = ⊤
IsRun Explain = ⊤

-- the output of a run on this input, if it is determined and known: the answers to a script of one lock, what becomes of the statements
-- of a script, what they lock, or the matrices, which need no input. For threads it isn't determined
abbrev pub run_output : Run → Option (List ℕ) → Option (List ℕ)
run_output (Lock kind) input = option_map (lock_output_of kind) input
run_output Matrix input = Some matrix_text
run_output Replay input = option_map played.output_of input
run_output Explain input = option_map told.output_of input
run_output (Threads patience cache) input = None

-- how a run may end on this input: a script is refused for its first bad line and no other, and the matrices, which read nothing, fail
-- only if memory runs out or in writing
abbrev pub IsRunEnd : Run → Option (List ℕ) → Result (Unit {0}) Fault → Type 0
IsRunEnd (Lock kind) input end = IfSome input (λ script. MayEnd (commands.parsed kind script) end)
IsRunEnd Replay input end = IfSome input (λ script. MayEnd (statements.parsed script) end)
IsRunEnd Explain input end = IfSome input (λ script. MayEnd (statements.parsed script) end)
IsRunEnd (Threads patience cache) input end = IfSome input (λ script. MayEnd (statements.parsed script) end)
IsRunEnd Matrix input (Ok done) = Unit {0}
IsRunEnd Matrix input (Err (Refused line error)) = ⊥
IsRunEnd Matrix input (Err Memory) = Unit {0}
IsRunEnd Matrix input (Err Read) = ⊥
IsRunEnd Matrix input (Err Write) = Unit {0}

-- what is written by a run that ends so: all of its output after success, otherwise no more than its fault leaves
abbrev pub Writes : Result (Unit {0}) Fault → Option (List ℕ) → Option (List ℕ) → List ℕ → Type 0
Writes (Ok done) old new output = Appends old new output
Writes (Err fault) old new output = LeavesWritten fault old new output

-- what a run that ends so may leave written: its output, or part of it. On threads it is a text of what the sessions can have done
abbrev pub MayLeaveWritten : Run → Option (List ℕ) → Result (Unit {0}) Fault → Option (List ℕ) → Option (List ℕ) → Type 0
MayLeaveWritten (Threads patience cache) input end old new = IfSome input (λ script. ThreadsLeave (options_of patience cache) (statements.parsed script) end old new)
MayLeaveWritten (Lock kind) input end old new = IfSome (run_output (Lock kind) input) (Writes end old new)
MayLeaveWritten Matrix input end old new = IfSome (run_output Matrix input) (Writes end old new)
MayLeaveWritten Replay input end old new = IfSome (run_output Replay input) (Writes end old new)
MayLeaveWritten Explain input end old new = IfSome (run_output Explain input) (Writes end old new)

-- a run may end so on this input, and leave this written
abbrev pub EndsAs : Run → Option (List ℕ) → Option (List ℕ) → Option (List ℕ) → Result (Unit {0}) Fault → Type 0
EndsAs run input old new end = IsRunEnd run input end × MayLeaveWritten run input end old new

-- the exit status of a program whose run ended so
abbrev pub end_status : Result (Unit {0}) Fault → ℕ
end_status (Ok done) = 0
end_status (Err fault) = fault_status fault
