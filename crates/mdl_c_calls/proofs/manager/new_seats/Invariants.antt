-- So many seats are there.
use Rattle.std.proofs.Common.{◌≡◌}
use Rattle.std.specs.Prelude.{replicate}
use Rattle.mdl_c_calls.specs.declared.seat.Seat.TheVariants.{Direct}
use Rattle.mdl_c_calls.proofs.manager.new_seats.Given as goal

abbrev pub invariant-loop-session : goal.invariant-loop-session
invariant-loop-session l = l.seats.items ≡ replicate l._session Direct
