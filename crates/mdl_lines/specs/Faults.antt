-- How faults are printed, and how a run of a script may end.
use Rattle.std.specs.Prelude.{◌≡◌, ℕ, List, ◌++◌, codes, Result, Ok, Err, IsOk}
use Rattle.std.specs.Fmt.{decimal}
use Rattle.mdl_lines.specs.declared.fault.LineError.{LineError}
use Rattle.mdl_lines.specs.declared.fault.LineError.TheVariants.{BadSession, BadWord, BadName, LongLine, NotAscii}
use Rattle.mdl_lines.specs.declared.fault.Fault.{Fault}
use Rattle.mdl_lines.specs.declared.fault.Fault.TheVariants.{Refused, Memory, Read, Write}

-- the error of a line, as it is printed
abbrev pub line_error_name : LineError → List ℕ
line_error_name BadSession = codes "BadSession"
line_error_name BadWord = codes "BadWord"
line_error_name BadName = codes "BadName"
line_error_name LongLine = codes "LongLine"
line_error_name NotAscii = codes "NotAscii"

-- a fault, as it is printed
abbrev pub fault_text : Fault → List ℕ
fault_text (Refused line error) = codes "line " ++ decimal line ++ codes ": " ++ line_error_name error
fault_text Memory = codes "fault: memory"
fault_text Read = codes "fault: device"
fault_text Write = codes "fault: device"

-- the status with which a program ends after a fault
abbrev pub fault_status : Fault → ℕ
fault_status (Refused line error) = 1
fault_status Memory = 3
fault_status Read = 3
fault_status Write = 3

-- the faults with which the reading of a script that says this may end: the refusal of its first bad line, or, if no line is
-- bad, that memory ran out
abbrev pub IsFaultOf : {A : Type 0} → Result (List A) (ℕ × LineError) → Fault → Type 0
IsFaultOf said (Refused line error) = said ≡ Err (line, error)
IsFaultOf said Memory = IsOk said
IsFaultOf said Read = ⊥
IsFaultOf said Write = ⊥

-- how a run of a script that says this may end: it is refused for its first bad line and no other, and it succeeds or fails
-- in writing only if no line is refused
abbrev pub MayEnd : {A : Type 0} → Result (List A) (ℕ × LineError) → Result (Unit {0}) Fault → Type 0
MayEnd said (Ok done) = IsOk said
MayEnd said (Err (Refused line error)) = said ≡ Err (line, error)
MayEnd said (Err Write) = IsOk said
MayEnd said (Err fault) = Unit {0}
