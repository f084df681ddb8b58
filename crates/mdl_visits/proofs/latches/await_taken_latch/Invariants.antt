-- As long as another session has the latch, only steps are made.
use Rattle.std.proofs.Common.{◌≡◌}
use Rattle.mdl_visits.proofs.Visiting.{Lingers}
use Rattle.mdl_visits.proofs.latches.await_taken_latch.Given as goal

abbrev pub invariant-loop : goal.invariant-loop
invariant-loop g l = record {
  next : (goal.iterator-loop g).can_next l.iterator';
  finite : (goal.iterator-loop g).is_finite l.iterator';
  table : l.seat.table ≡ l.fn.seat.table;
  steps : Lingers l.fn.seat.me l.seat.me;
}
