-- The place and the ticket are the call's.
use Rattle.mdl_steps.proofs.table_seat.TableSeat.grant_wait.Given as goal

abbrev pub ghosts-grant_wait_at : goal.ghosts-grant_wait_at
ghosts-grant_wait_at a = record { place = a.latch.now.place; ticket = a.ticket }
