-- What it does to a space that a key gets a place.
use Rattle.std.specs.Prelude.{ℕ, Bool, nat_le, length, if◌then◌else◌}
use Rattle.std.specs.List.{list_any}
use Rattle.mdl_key.specs.Keys.{KeyName}
use Rattle.mdl_calls.specs.SessionLocks.{is_pinned}
use Rattle.mdl_core.specs.Changes.{opening}
use Rattle.mdl_core.specs.Cores.{Core, placing_at}
use Rattle.mdl_core.specs.Seats.{locks_of_seat}

-- the space in which a key has this place: one that another key had, or the next one
abbrev pub placed_at : ℕ → KeyName → Core → Core
placed_at place key core = if nat_le place (length core.books) then placing_at place key core else opening key core

-- whether a session pins a place
abbrev pub some_session_pins : ℕ → Core → Bool
some_session_pins place core = list_any (λ seat. is_pinned place (locks_of_seat seat)) core.seats
