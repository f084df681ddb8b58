-- The limits of a table. The greatest number of views is 1,025: those of the sessions, and that of the first seat, from which theirs are split off. A count in a
-- lock's word has 20 bits, and 1,025 times 1,023 is less than 2^20.
use Rattle.std.specs.Prelude.{ℕ}

-- the greatest number of sessions of a table
abbrev pub most_enrolled : ℕ
most_enrolled = 1024

-- the greatest number of fast tickets of a session at a place
abbrev pub most_fast : ℕ
most_fast = 1023
