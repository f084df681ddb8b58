-- What C gets of a script that is played: its answers if they fit, otherwise why not.
use Rattle.std.specs.Prelude.{◌≡◌, ◌⊎◌, ◌<◌, ◌≤◌, ℕ, List, ◌++◌, length, drop, Option, Some, None, Result, Ok, Err}
use Rattle.mdl_key.specs.declared.namespace.Kind.{Kind}
use Rattle.mdl_lines.specs.declared.fault.Fault.{Fault}
use Rattle.mdl_lines.specs.declared.fault.Fault.TheVariants.{Refused, Memory, Read, Write}
use Rattle.mdl_lines.specs.declared.fault.LineError.{LineError}
use Rattle.mdl_text.specs.Codes.{done, line_code, no_kind, no_memory, no_room}

-- what a call may change for C: the bytes of the room for answers, a number of bytes, and the number of a line
pub record Written : Type 0 where
  pub room : List ℕ
  pub size : ℕ
  pub line : ℕ

-- C gets this code, and all else is unchanged
abbrev pub TellsOnly : ℕ → ℕ → Written → Written → Type 0
TellsOnly wanted code before after = (code ≡ wanted) × (after ≡ before)

-- the answers fit: they are at the beginning of the room, and after them is what was there
abbrev pub Fits : List ℕ → ℕ → Written → Written → Type 0
Fits answers code before after =
    (length answers ≤ length before.room) × (code ≡ done) × (after.room ≡ answers ++ drop (length answers) before.room)

-- the answers don't fit, and the room is unchanged
abbrev pub Exceeds : List ℕ → ℕ → Written → Written → Type 0
Exceeds answers code before after = (length before.room < length answers) × (code ≡ no_room) × (after.room ≡ before.room)

-- the answers are copied into the room if they fit, and their length is set in any case
abbrev pub PrintsAnswers : List ℕ → ℕ → Written → Written → Type 0
PrintsAnswers answers code before after =
    (Fits answers code before after ⊎ Exceeds answers code before after) × (after.size ≡ length answers) × (after.line ≡ before.line)

-- a line is refused, and its number is set
abbrev pub RefusesLine : ℕ → LineError → ℕ → Written → Written → Type 0
RefusesLine number why code before after = (code ≡ line_code why) × (after ≡ record before { line = number })

-- what C gets of a run that has these answers and ended so
abbrev pub Tells : Result (Unit {0}) Fault → List ℕ → ℕ → Written → Written → Type 0
Tells (Ok ended) answers code before after = PrintsAnswers answers code before after
Tells (Err (Refused number why)) answers code before after = RefusesLine number why code before after
Tells (Err Memory) answers code before after = TellsOnly no_memory code before after
Tells (Err Read) answers code before after = TellsOnly no_memory code before after
Tells (Err Write) answers code before after = TellsOnly no_memory code before after

-- what C gets of a script that says this, and has these answers, if memory doesn't run out
abbrev pub Answers : {A : Type 0} → Result (List A) (ℕ × LineError) → List ℕ → ℕ → Written → Written → Type 0
Answers (Ok asked) answers code before after = PrintsAnswers answers code before after
Answers (Err refusal) answers code before after = RefusesLine refusal.0 refusal.1 code before after

-- what C gets of such a script, if memory may run out
abbrev pub Plays : {A : Type 0} → Result (List A) (ℕ × LineError) → List ℕ → ℕ → Written → Written → Type 0
Plays said answers code before after = Answers said answers code before after ⊎ TellsOnly no_memory code before after

-- the same for a script of a lock of this kind, if there is such a kind
abbrev pub PlaysLock : {A : Type 0} → Option Kind → (Kind → Result (List A) (ℕ × LineError)) → (Kind → List ℕ) → ℕ → Written → Written → Type 0
PlaysLock None said answers code before after = TellsOnly no_kind code before after
PlaysLock (Some kind) said answers code before after = Plays (said kind) (answers kind) code before after
