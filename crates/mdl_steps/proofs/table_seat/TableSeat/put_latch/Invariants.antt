-- The deeds are the call's.
use Rattle.mdl_steps.proofs.table_seat.TableSeat.put_latch.Given as goal

abbrev pub ghosts-put_latch_after : goal.ghosts-put_latch_after
ghosts-put_latch_after a = record { deeds = a._deeds.now }
