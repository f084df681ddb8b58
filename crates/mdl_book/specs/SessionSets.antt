-- Sets of session numbers. That these run from 1 to 1,024 is this project's own choice.
use Rattle.std.specs.Prelude.{ℕ, ◌≡◌, Bool, ◌&&◌, nat_le}
use Rattle.std.specs.Ordering.{nat_cmp}
use Rattle.std.specs.FinSet as set

-- whether a session can have this number
abbrev pub is_session : ℕ → Bool
is_session session = nat_le 1 session && nat_le session 1024

-- the set has exactly the numbers that a session can have
abbrev pub IsEverySession : set.FinSet nat_cmp → Type 0
IsEverySession sessions = (session : ℕ) → set.contains sessions session ≡ is_session session
