-- The session holds no latch between two visits.
use Rattle.std.proofs.Common.{◌≡◌, []}
use Rattle.mdl_run_trials.proofs.shared.steps.threads.saw_nobody.Given as goal

abbrev pub invariant-loop : goal.invariant-loop
invariant-loop l = record {
  table : l.seat.table ≡ l.fn.seat.table;
  idle : l.seat.me.0.latches ≡ [];
}
