use Rattle.std.proofs.Common.{◌≡◌}
use Rattle.std.specs.Prelude.{replicate}
use Rattle.mdl_core.specs.Seats.{empty_seat}
use Rattle.mdl_space.proofs.core_space.CoreSpace.new.Given as goal

abbrev pub invariant-loop-session : goal.invariant-loop-session
invariant-loop-session l = l.seats.items ≡ replicate l._session empty_seat
