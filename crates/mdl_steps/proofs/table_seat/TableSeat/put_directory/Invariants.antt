-- What is learnt is by the session's record.
use Rattle.mdl_steps.specs.Seats.{learnt}
use Rattle.mdl_steps.proofs.table_seat.TableSeat.put_directory.Given as goal

abbrev pub ghosts-put_directory_knowing : goal.ghosts-put_directory_knowing
ghosts-put_directory_knowing a = record { learnt = learnt a.self.now.me a._place }
