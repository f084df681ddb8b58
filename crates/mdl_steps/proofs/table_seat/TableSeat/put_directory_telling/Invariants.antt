-- What is learnt is new to the session.
use Rattle.mdl_steps.specs.Schemas.{unknown}
use Rattle.mdl_steps.proofs.table_seat.TableSeat.put_directory_telling.Given as goal

abbrev pub ghosts-put_directory_after : goal.ghosts-put_directory_after
ghosts-put_directory_after a = record { learnt = unknown a.self.now.me.0.known a._known.now }
