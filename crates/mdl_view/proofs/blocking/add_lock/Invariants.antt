-- Those of the waiting tickets so far were added.
use Rattle.std.proofs.Common.{◌≡◌, ◌++◌, take}
use Rattle.std.specs.List.{flat_map}
use Rattle.mdl_view.specs.Blockings.{blockings_of}
use Rattle.mdl_view.proofs.blocking.add_lock.Given as goal

abbrev pub invariant-loop-ask : goal.invariant-loop-ask
invariant-loop-ask l = l.found.items ≡ l.fn.found.items ++ flat_map (blockings_of l.place l.lock) (take l.ask-index l.lock.waiting)
