-- The sessions that the ways so far help.
use Rattle.std.proofs.Common.{take}
use Rattle.mdl_view.specs.SessionSets.{has}
use Rattle.mdl_view.specs.Ways.{AreHelped}
use Rattle.mdl_view.proofs.joint.helped_by_all.Given as goal

abbrev pub invariant-loop-way : goal.invariant-loop-way
invariant-loop-way l = AreHelped l.locks (take l.way-index l.ways) (has l.all)
