-- The number is the call's.
use Rattle.mdl_steps.proofs.table_seat.TableSeat.release_fast.Given as goal

abbrev pub ghosts-release_fast_as : goal.ghosts-release_fast_as
ghosts-release_fast_as a = record { number = a._number }
