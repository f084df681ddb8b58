-- The sessions of the tickets so far were added.
use Rattle.std.proofs.Common.{◌≡◌, filter, take}
use Rattle.std.specs.Prelude.{fold}
use Rattle.mdl_view.specs.Blockings.{waits_before}
use Rattle.mdl_view.specs.Ways.{with_session}
use Rattle.mdl_view.proofs.blocker.add_waiters.Given as goal

abbrev pub invariant-loop-pending : goal.invariant-loop-pending
invariant-loop-pending l = l.found.items ≡ fold with_session l.fn.found.items (filter (waits_before l.lock l.ask) (take l.pending-index l.lock.waiting))
