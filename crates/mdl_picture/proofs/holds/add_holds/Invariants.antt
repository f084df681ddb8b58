-- The bars found, and those of the locks behind.
use Rattle.std.proofs.Common.{◌≡◌, ◌++◌, drop, map}
use Rattle.mdl_picture.specs.Holds.{hold_from, holds_from, new_locks}
use Rattle.mdl_picture.proofs.holds.add_holds.Given as goal

abbrev pub invariant-loop-place : goal.invariant-loop-place
invariant-loop-place l =
    l.holds.items ++ map (hold_from l.drawn l.later) (new_locks l.before (drop l.place l.drawn.event.held)) ≡ l.fn.holds.items ++ holds_from l.before l.drawn l.later
