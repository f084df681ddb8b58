-- The tracks of so many of the bars.
use Rattle.std.proofs.Common.{◌≡◌, take}
use Rattle.mdl_picture.specs.Holds.{track_count}
use Rattle.mdl_picture.proofs.placing.track_count.Given as goal

abbrev pub invariant-loop-one : goal.invariant-loop-one
invariant-loop-one l = l.tracks ≡ track_count (take l.one-index l.placed) l.session
