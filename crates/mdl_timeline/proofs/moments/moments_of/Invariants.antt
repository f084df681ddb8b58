-- What happened so far, and what happens at the lines that are left.
use Rattle.std.proofs.Common.{◌≡◌, ◌++◌, drop}
use Rattle.mdl_script.specs.Plays.{IsManned, world_of}
use Rattle.mdl_timeline.specs.Moments.{moments_in, moments_of}
use Rattle.mdl_timeline.proofs.moments.moments_of.Given as goal

abbrev pub invariant-loop-line : goal.invariant-loop-line
invariant-loop-line l = record {
  so_far : l.moments.items ++ moments_in l.text (drop l.line-index l.lines) (world_of l.play) ≡ moments_of l.text l.lines;
  manned : IsManned l.play;
}
