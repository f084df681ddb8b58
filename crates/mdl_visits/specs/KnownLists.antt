-- A session's own list of the keys that it looked up, and of the places that it pins, as the session's calls see it.
use Rattle.std.specs.Prelude.{◌==◌, Bool, Option, if◌then◌else◌}
use Rattle.mdl_visits.specs.Prelude.{Kind, KnownKey, List, None, kind_known, list_any, ℕ}

-- the keys with their places, for how many more there is room, below which place those may be, and the places that are pinned, in rising order
pub record KnownList : Type 0 where
  pub known : List KnownKey
  pub room : ℕ
  pub reach : ℕ
  pub pins : List ℕ

-- whether a place is among the pinned ones
abbrev pub has_pin : ℕ → List ℕ → Bool
has_pin place pins = list_any (λ pin. pin == place) pins

-- the kind of the lock at a place, by the keys that are known, if the place is among the pinned ones
abbrev pub kind_pinned : ℕ → List ℕ → List KnownKey → Option Kind
kind_pinned place pins known = if has_pin place pins then kind_known place known else None
