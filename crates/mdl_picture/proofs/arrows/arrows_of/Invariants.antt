-- The arrows of so many of the boxes.
use Rattle.std.proofs.Common.{◌≡◌, take}
use Rattle.mdl_picture.specs.Arrows.{arrows_of}
use Rattle.mdl_picture.proofs.arrows.arrows_of.Given as goal

abbrev pub invariant-loop-drawn : goal.invariant-loop-drawn
invariant-loop-drawn l = l.arrows.items ≡ arrows_of (take l.drawn-index l.boxes)
