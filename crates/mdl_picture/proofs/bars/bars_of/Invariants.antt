-- The waits found, and those behind.
use Rattle.std.proofs.Common.{◌≡◌, ◌++◌, drop}
use Rattle.mdl_picture.specs.Bars.{bars_of}
use Rattle.mdl_picture.proofs.bars.bars_of.Given as goal

abbrev pub invariant-loop-place : goal.invariant-loop-place
invariant-loop-place l = l.bars.items ++ bars_of (drop l.place l.boxes) ≡ bars_of l.boxes
