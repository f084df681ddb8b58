-- The locks so far, as they are held by now.
use Rattle.std.proofs.Common.{◌≡◌, map, take}
use Rattle.mdl_view.specs.Upgrades.{by_now}
use Rattle.mdl_view.proofs.upgrade.by_now.Given as goal

abbrev pub invariant-loop-lock : goal.invariant-loop-lock
invariant-loop-lock l = l.held.items ≡ map by_now (take l.lock-index l.locks)
