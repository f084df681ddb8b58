-- A box, and its sides.
use Rattle.std.specs.Prelude.{ℕ}
use Rattle.mdl_picture.specs.Moments.{EventView}

-- the box of an event that happens at this line, from its left to its right side
pub record Box : Type 0 where
  pub line : ℕ
  pub event : EventView
  pub x : ℕ
  pub right : ℕ
