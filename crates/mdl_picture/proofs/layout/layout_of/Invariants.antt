-- What is drawn of so many moments.
use Rattle.std.proofs.Common.{◌≡◌, take}
use Rattle.mdl_picture.specs.Layouts.{layout_of}
use Rattle.mdl_picture.proofs.layout.layout_of.Given as goal

abbrev pub invariant-loop-moment : goal.invariant-loop-moment
invariant-loop-moment l = l.layout ≡ layout_of (take l.moment-index l.moments)
