-- Those of the granted tickets so far were added.
use Rattle.std.proofs.Common.{◌≡◌, ◌++◌, map, filter, take}
use Rattle.mdl_view.specs.Blockings.{at_lock}
use Rattle.mdl_view.specs.Held.{is_of}
use Rattle.mdl_view.proofs.held.add_held.Given as goal

abbrev pub invariant-loop-held : goal.invariant-loop-held
invariant-loop-held l = l.found.items ≡ l.fn.found.items ++ map (at_lock l.place) (filter (is_of l.session) (take l.held-index l.lock.granted))
