-- The sessions of the tickets that were looked at.
use Rattle.std.proofs.Common.{take}
use Rattle.std.specs.List.{list_any}
use Rattle.mdl_timeline.specs.Gains.{Gains}
use Rattle.mdl_timeline.proofs.WayLemmas.{waiter}
use Rattle.mdl_timeline.proofs.in_the_way.add_waiters.Given as goal

abbrev pub invariant-loop-pending : goal.invariant-loop-pending
invariant-loop-pending l = Gains (λ session. list_any (waiter l.book l.wish session) (take l.pending-index l.waiting)) l.fn.those l.those
