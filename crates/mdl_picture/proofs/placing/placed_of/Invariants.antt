-- So many of the bars, each in its track.
use Rattle.std.proofs.Common.{◌≡◌, take}
use Rattle.mdl_picture.specs.Holds.{placed_of}
use Rattle.mdl_picture.proofs.placing.placed_of.Given as goal

abbrev pub invariant-loop-hold : goal.invariant-loop-hold
invariant-loop-hold l = l.placed.items ≡ placed_of (take l.hold-index l.holds)
