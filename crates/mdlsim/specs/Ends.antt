-- How the program ends, and what it has written then.
use Rattle.std.specs.Prelude.{◌≡◌, ◌⊎◌, ℕ, List, Option, Some, Result, IsOk}
use Rattle.std.specs.Io.KnownBytes.{Keeps}
use Rattle.mdl_lines.specs.declared.fault.Fault.{Fault}
use Rattle.mdl_program.specs.declared.program.Run.{Run}
use Rattle.mdl_program.specs.declared.program.Run.TheVariants.{Explain}
use Rattle.mdl_program.specs.Runs.{EndsAs, end_status}
use Rattle.mdlsim.specs.CommandLine.{Asks, line_text}

-- the words after the program's name ask for no run
abbrev pub AskForNoRun : List (List ℕ) → Type 0
AskForNoRun words = (run : Run) → Asks words run → ⊥

-- how the program may end for words, after its name, that don't ask for its version. They ask for a run: the status is that of an end that it may have, and
-- no error is written if it succeeded. 2: they ask for no run. 3: memory ran out while they were read. In both cases nothing is written
abbrev pub EndsByWords : List (List ℕ) → ℕ → Option (List ℕ) → Option (List ℕ) → Option (List ℕ) → Option (List ℕ) → Option (List ℕ) → Type 0
EndsByWords words status input old new errors told =
    ((run : Run) × (end : Result (Unit {0}) Fault) × Asks words run × EndsAs run input old new end × (status ≡ end_status end) × (IsOk end → Keeps errors told))
    ⊎ (((status ≡ 2) × AskForNoRun words × Keeps old new)
    ⊎ ((status ≡ 3) × Keeps old new))

-- how the program may end for a line to explain, and what it has written then: its explanation, if memory doesn't run out and no write fails
abbrev pub EndsForLine : List (List ℕ) → ℕ → Option (List ℕ) → Option (List ℕ) → Option (List ℕ) → Option (List ℕ) → Type 0
EndsForLine line status old new errors told =
    (end : Result (Unit {0}) Fault) × EndsAs Explain (Some (line_text line)) old new end × (status ≡ end_status end) × (IsOk end → Keeps errors told)
