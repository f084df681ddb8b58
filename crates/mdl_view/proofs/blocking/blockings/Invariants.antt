-- What was found, and what the locks behind have.
use Rattle.std.proofs.Common.{◌≡◌, ◌++◌, drop}
use Rattle.mdl_view.specs.Blockings.{blockings_in}
use Rattle.mdl_view.proofs.blocking.blockings.Given as goal

abbrev pub invariant-loop-place : goal.invariant-loop-place
invariant-loop-place l = l.found.items ++ blockings_in l.place (drop l.place l.locks) ≡ blockings_in 0 l.locks
