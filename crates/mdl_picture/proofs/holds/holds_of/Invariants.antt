-- The bars found, and those behind.
use Rattle.std.proofs.Common.{◌≡◌, ◌++◌, drop}
use Rattle.mdl_picture.specs.Holds.{holds_after, holds_of}
use Rattle.mdl_picture.proofs.holds.holds_of.Given as goal

abbrev pub invariant-loop-place : goal.invariant-loop-place
invariant-loop-place l = l.holds.items ++ holds_after l.before (drop l.place l.boxes) ≡ holds_of l.boxes
