-- To look at the wait as often as is left from here is to look at it as often as at the start.
use Rattle.std.proofs.Common.{◌-◌}
use Rattle.mdl_calls.specs.Words.{Runs}
use Rattle.mdl_work.specs.Works.{waiting_out}
use Rattle.mdl_work.proofs.waiting.wait_out.Given as goal

abbrev pub invariant-loop-poll : goal.invariant-loop-poll
invariant-loop-poll g l = record {
  speaks : g.S.LockSpace.speaks_for l.space l.who;
  run : (b : g.row.S.Denot) → Runs g.S.LockSpace.joins l.space (waiting_out l.who (l.patience - l._poll)) tt b
      → Runs g.S.LockSpace.joins l.fn.space (waiting_out l.who l.patience) tt b;
}
