-- Behind so many of the bars.
use Rattle.std.proofs.Common.{◌≡◌, take}
use Rattle.mdl_picture.specs.Holds.{track_for}
use Rattle.mdl_picture.proofs.placing.track_for.Given as goal

abbrev pub invariant-loop-other : goal.invariant-loop-other
invariant-loop-other l = l.track ≡ track_for (take l.other-index l.placed) l.hold
