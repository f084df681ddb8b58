-- Those of the requests so far were added.
use Rattle.std.proofs.Common.{◌≡◌, filter, take}
use Rattle.mdl_view.specs.Blockings.{is_unexplained}
use Rattle.mdl_view.proofs.upgrade.unexplained_of.Given as goal

abbrev pub invariant-loop-ask : goal.invariant-loop-ask
invariant-loop-ask l = l.waits.items ≡ filter (is_unexplained l.lock) (take l.ask-index l.asks)
