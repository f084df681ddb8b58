-- The tickets so far are written, and behind them lies what lay there.
use Rattle.std.proofs.Common.{◌≡◌, ◌++◌, map, take, drop}
use Rattle.mdl_c_parts.specs.Rows.{held_row}
use Rattle.mdl_c_parts.proofs.rows.tell_held.Given as goal

abbrev pub invariant-loop-at : goal.invariant-loop-at
invariant-loop-at l = l.room ≡ map held_row (take l.at l.fitting) ++ drop l.at l.initial.room
