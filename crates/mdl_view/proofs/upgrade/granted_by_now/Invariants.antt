-- The tickets so far, as they are held by now.
use Rattle.std.proofs.Common.{◌≡◌, map, take}
use Rattle.mdl_view.specs.Upgrades.{held_for}
use Rattle.mdl_view.proofs.upgrade.granted_by_now.Given as goal

abbrev pub invariant-loop-held : goal.invariant-loop-held
invariant-loop-held l = l.granted.items ≡ map (held_for l.lock l.waits) (take l.held-index l.lock.granted)
