-- Those of the granted tickets so far were added.
use Rattle.std.proofs.Common.{◌≡◌, ◌++◌, map, filter, take}
use Rattle.mdl_view.specs.declared.blocking.Reason.TheVariants.{Holds}
use Rattle.mdl_view.specs.Blockings.{blocking, holds_against}
use Rattle.mdl_view.proofs.blocking.add_holders.Given as goal

abbrev pub invariant-loop-held : goal.invariant-loop-held
invariant-loop-held l =
    l.found.items ≡ l.fn.found.items ++ map (blocking l.place l.ask Holds) (filter (holds_against l.lock l.ask) (take l.held-index l.lock.granted))
