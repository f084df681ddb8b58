-- The mode and the note are the call's.
use Rattle.mdl_steps.proofs.table_seat.TableSeat.grant_fast.Given as goal

abbrev pub ghosts-grant_fast_as : goal.ghosts-grant_fast_as
ghosts-grant_fast_as a = record { mode = a._mode; noted = a._noted }
