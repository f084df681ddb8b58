-- The tickets so far are written, and behind them lies what lay there. The manager is as it was.
use Rattle.std.proofs.Common.{◌≡◌, ◌≤◌, ◌++◌, length, map, take, drop}
use Rattle.mdl_c_calls.specs.Listings.{waiting_at, waiting_row}
use Rattle.mdl_c_calls.proofs.manager.ServedSpace.write_waiting.Given as goal

abbrev pub invariant-loop-at : goal.invariant-loop-at
invariant-loop-at l = record {
  written : l.room ≡ map (waiting_row l.fn.self) (take l.at (waiting_at l.place l.fn.self.space)) ++ drop l.at l.initial.room;
  within : l.at ≤ length (waiting_at l.place l.fn.self.space);
  same : l.self ≡ l.fn.self;
}
