-- The place and the mode are the call's.
use Rattle.mdl_steps.proofs.table_seat.TableSeat.open_wait.Given as goal

abbrev pub ghosts-open_wait_at : goal.ghosts-open_wait_at
ghosts-open_wait_at a = record { place = a.latch.now.place; mode = a.mode }
