-- Those of the requests so far were added.
use Rattle.std.proofs.Common.{◌≡◌, ◌++◌, map, filter, take}
use Rattle.mdl_view.specs.Blockings.{at_lock, is_unexplained}
use Rattle.mdl_view.proofs.waits.add_unexplained_by.Given as goal

abbrev pub invariant-loop-ask : goal.invariant-loop-ask
invariant-loop-ask l = l.found.items ≡ l.fn.found.items ++ map (at_lock l.place) (filter (is_unexplained l.lock) (take l.ask-index l.asks))
