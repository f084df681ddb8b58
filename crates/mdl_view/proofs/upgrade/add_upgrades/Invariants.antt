-- Those of the granted tickets so far were added.
use Rattle.std.proofs.Common.{◌≡◌, ◌++◌, map, filter, take}
use Rattle.mdl_view.specs.Upgrades.{is_upgraded, upgrade_of}
use Rattle.mdl_view.proofs.upgrade.add_upgrades.Given as goal

abbrev pub invariant-loop-held : goal.invariant-loop-held
invariant-loop-held l =
    l.found.items ≡ l.fn.found.items ++ map (upgrade_of l.place l.lock) (filter (is_upgraded l.lock l.waits) (take l.held-index l.lock.granted))
