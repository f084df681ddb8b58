-- A lock space that serves all sessions of a trial.
use Rattle.std.specs.Prelude.{ℕ, ◌≤◌}

-- the space speaks for each session numbered from 1 up to a limit
abbrev pub SpeaksForAll : {S : Type 0} → (S → ℕ → Type 0) → ℕ → S → Type 0
SpeaksForAll speaks_for most space = (who : ℕ) → 1 ≤ who → who ≤ most → speaks_for space who
