-- The tickets so far are written, and behind them lies what lay there.
use Rattle.std.proofs.Common.{◌≡◌, ◌++◌, map, take, drop}
use Rattle.mdl_c_calls.specs.Listings.{granted_row}
use Rattle.mdl_c_calls.proofs.manager.ServedSpace.write_granted.Given as goal

abbrev pub invariant-loop-at : goal.invariant-loop-at
invariant-loop-at l = l.room ≡ map (granted_row l.fn.self) (take l.at l.fitting) ++ drop l.at l.initial.room
