-- What was found, and what the locks behind have.
use Rattle.std.proofs.Common.{◌≡◌, ◌++◌, drop}
use Rattle.mdl_view.specs.Upgrades.{upgrades_in}
use Rattle.mdl_view.proofs.upgrade.upgrades.Given as goal

abbrev pub invariant-loop-place : goal.invariant-loop-place
invariant-loop-place l = l.found.items ++ upgrades_in l.place (drop l.place l.locks) ≡ upgrades_in 0 l.locks
