-- Where so many of the boxes end.
use Rattle.std.proofs.Common.{◌≡◌, take}
use Rattle.mdl_picture.specs.Pictures.{end_of}
use Rattle.mdl_picture.proofs.drawing.end_of.Given as goal

abbrev pub invariant-loop-drawn : goal.invariant-loop-drawn
invariant-loop-drawn l = l.x ≡ end_of (take l.drawn-index l.boxes)
