-- The limits of a lock space and of names. They are this project's own.
use Rattle.std.specs.Prelude.{ℕ}

-- the most sessions that a space can have, numbered from 1
abbrev pub most_sessions : ℕ
most_sessions = 1024

-- the most places that a space can have, numbered from 1, each of one key
abbrev pub most_places : ℕ
most_places = 256

-- the most bytes that a name can have
abbrev pub longest_name : ℕ
longest_name = 64

-- the most bytes that a name can have where it may be any text
abbrev pub longest_utf8_name : ℕ
longest_utf8_name = 255
