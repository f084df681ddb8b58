-- So many tries missed.
use Rattle.std.proofs.Common.{◌≡◌}
use Rattle.mdl_visits.specs.FastTries.{Misses}
use Rattle.mdl_visits.proofs.calls.try_fast.try_fast.Given as goal

abbrev pub invariant-loop : goal.invariant-loop
invariant-loop l = record {
  table : l.seat.table ≡ l.fn.seat.table;
  missed : Misses l.fn.place l.counter l.word.0 l.fn.seat.me l.seat.me;
}
