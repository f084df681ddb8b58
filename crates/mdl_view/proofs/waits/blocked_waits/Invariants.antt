-- What was found, and what the locks behind have.
use Rattle.std.proofs.Common.{◌≡◌, ◌++◌, drop}
use Rattle.mdl_view.specs.Blockings.{is_blocked, waits_that}
use Rattle.mdl_view.proofs.waits.blocked_waits.Given as goal

abbrev pub invariant-loop-place : goal.invariant-loop-place
invariant-loop-place l = l.found.items ++ waits_that is_blocked l.place (drop l.place l.locks) ≡ waits_that is_blocked 0 l.locks
