-- The deeds are the call's.
use Rattle.mdl_steps.proofs.table_seat.TableSeat.lower_flags.Given as goal

abbrev pub ghosts-lower_flags_after : goal.ghosts-lower_flags_after
ghosts-lower_flags_after a = record { deeds = a._deeds.now }
