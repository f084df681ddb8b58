-- What was found, and what the locks behind have.
use Rattle.std.proofs.Common.{◌≡◌, ◌++◌, drop}
use Rattle.mdl_view.specs.Blockings.{waits_that}
use Rattle.mdl_view.specs.SessionSets.{has}
use Rattle.mdl_view.specs.Ways.{needs_several}
use Rattle.mdl_view.proofs.joint.several_waits.Given as goal

abbrev pub invariant-loop-place : goal.invariant-loop-place
invariant-loop-place l =
    l.found.items ++ waits_that (needs_several (has l.helped)) l.place (drop l.place l.locks) ≡ waits_that (needs_several (has l.helped)) 0 l.locks
