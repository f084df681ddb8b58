-- How many places and sessions a lock space may have.
use Rattle.std.specs.Prelude.{ℕ, Bool, ◌&&◌, nat_le, not, Option, Some, None, if◌then◌else◌}
use Rattle.mdl_key.specs.Words.{most_places, most_sessions}
use Rattle.mdl_calls.specs.declared.new_error.NewError.{NewError}
use Rattle.mdl_calls.specs.declared.new_error.NewError.TheVariants.{BadPlaces, BadSessions}

-- whether a number is from 1 to the limit
abbrev pub is_within : ℕ → ℕ → Bool
is_within most n = nat_le 1 n && nat_le n most

-- why there can't be a space of this number of places and sessions, if there can't
abbrev pub new_fault : ℕ → ℕ → Option NewError
new_fault places sessions =
    if not (is_within most_places places) then Some BadPlaces
    else (if not (is_within most_sessions sessions) then Some BadSessions else None)
