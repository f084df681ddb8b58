-- The sessions that a script can name, and the words that name them. The script language is this project's own.
use Rattle.std.specs.Prelude.{ℕ, ◌+◌, ◌-◌, ◌*◌, ◌≤◌, Bool, ◌&&◌, nat_le, List, Option, Some, None, slice_index, if◌then◌else◌, fold}
use Rattle.std.specs.List.{list_all}
use Rattle.mdl_key.specs.Words.{most_sessions}

-- a session that a script can name
abbrev pub IsScriptSession : ℕ → Type 0
IsScriptSession session = (1 ≤ session) × (session ≤ most_sessions)

-- whether a byte is a decimal digit
abbrev pub is_digit : ℕ → Bool
is_digit byte = nat_le 48 byte && nat_le byte 57

-- the number that a word of decimal digits stands for
abbrev pub decimal_value : List ℕ → ℕ
decimal_value digits = fold (λ value digit. 10 * value + (digit - 48)) 0 digits

-- the session that a word names: a decimal number from 1 to `most_sessions`, without a sign or a leading zero
abbrev pub session_of : List ℕ → Option ℕ
session_of word =
    if list_all is_digit word && nat_le 49 (slice_index word 0) && nat_le (decimal_value word) most_sessions then Some (decimal_value word) else None
