-- The places that a session pins, as a mark for each place.
use Rattle.std.specs.Prelude.{ℕ, ◌+◌, Bool, List, [], ◌∷◌, if◌then◌else◌}

-- what `Pins` is to its callers: the pinned places, in rising order, and the number of places that it has a mark for. These are the places from 0 on.
pub record PinSet : Type 0 where
  pub places : List ℕ
  pub reach : ℕ

-- the places with a mark, in rising order, by the marks of the places from this one on
abbrev pub marked_from : ℕ → List Bool → List ℕ
marked_from place [] = []
marked_from place (mark ∷ marks) = if mark then place ∷ marked_from (place + 1) marks else marked_from (place + 1) marks
