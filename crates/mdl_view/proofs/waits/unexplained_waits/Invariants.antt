-- What was found, and what the locks behind have.
use Rattle.std.proofs.Common.{◌≡◌, ◌++◌, drop}
use Rattle.mdl_view.specs.Blockings.{is_unexplained, waits_that}
use Rattle.mdl_view.proofs.waits.unexplained_waits.Given as goal

abbrev pub invariant-loop-place : goal.invariant-loop-place
invariant-loop-place l = l.found.items ++ waits_that is_unexplained l.place (drop l.place l.locks) ≡ waits_that is_unexplained 0 l.locks
