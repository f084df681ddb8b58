-- What was found, and what the locks behind have.
use Rattle.std.proofs.Common.{◌≡◌, ◌++◌, drop}
use Rattle.mdl_view.specs.Held.{held_from}
use Rattle.mdl_view.proofs.held.held_by.Given as goal

abbrev pub invariant-loop-place : goal.invariant-loop-place
invariant-loop-place l = l.found.items ++ held_from l.session l.place (drop l.place l.locks) ≡ held_from l.session 0 l.locks
