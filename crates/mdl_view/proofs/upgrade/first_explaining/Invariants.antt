-- None of the modes so far explains the waits: the first that does is behind them.
use Rattle.std.proofs.Common.{◌≡◌, drop}
use Rattle.std.specs.List.{find}
use Rattle.mdl_view.specs.Upgrades.{explains_all, later_modes}
use Rattle.mdl_view.proofs.upgrade.first_explaining.Given as goal

abbrev pub invariant-loop-mode : goal.invariant-loop-mode
invariant-loop-mode l = find (explains_all l.lock l.held l.waits) (drop l.mode-index (later_modes l.held.mode)) ≡ find (explains_all l.lock l.held l.waits) (later_modes l.held.mode)
