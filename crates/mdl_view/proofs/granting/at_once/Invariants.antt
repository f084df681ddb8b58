-- What was found, and what the locks behind have.
use Rattle.std.proofs.Common.{◌≡◌, ◌++◌, drop}
use Rattle.mdl_view.specs.AtOnce.{at_once_from}
use Rattle.mdl_view.proofs.granting.at_once.Given as goal

abbrev pub invariant-loop-place : goal.invariant-loop-place
invariant-loop-place l = l.found.items ++ at_once_from l.act l.place (drop l.place l.locks) ≡ at_once_from l.act 0 l.locks
