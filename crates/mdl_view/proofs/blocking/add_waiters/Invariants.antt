-- Those of the waiting tickets so far were added.
use Rattle.std.proofs.Common.{◌≡◌, ◌++◌, map, filter, take}
use Rattle.mdl_view.specs.declared.blocking.Reason.TheVariants.{WaitsBefore}
use Rattle.mdl_view.specs.Blockings.{blocking, waits_before}
use Rattle.mdl_view.proofs.blocking.add_waiters.Given as goal

abbrev pub invariant-loop-pending : goal.invariant-loop-pending
invariant-loop-pending l =
    l.found.items ≡ l.fn.found.items ++ map (blocking l.place l.ask WaitsBefore) (filter (waits_before l.lock l.ask) (take l.pending-index l.lock.waiting))
