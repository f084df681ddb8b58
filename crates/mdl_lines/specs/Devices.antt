-- What is written when a write fails.
use Rattle.std.specs.Prelude.{ℕ, ◌<◌, List, Option, length, take}
use Rattle.std.specs.Io.KnownBytes.{Appends, Keeps}
use Rattle.mdl_lines.specs.declared.fault.Fault.{Fault}
use Rattle.mdl_lines.specs.declared.fault.Fault.TheVariants.{Write}

-- a first part of the text was appended to the known bytes, but not all of it
abbrev pub AppendsPart : Option (List ℕ) → Option (List ℕ) → List ℕ → Type 0
AppendsPart old new text = (n : ℕ) × (n < length text) × Appends old new (take n text)

-- what a fault leaves written: a first part of the output but never all of it if writing failed, otherwise nothing
abbrev pub LeavesWritten : Fault → Option (List ℕ) → Option (List ℕ) → List ℕ → Type 0
LeavesWritten Write old new output = AppendsPart old new output
LeavesWritten fault old new output = Keeps old new
