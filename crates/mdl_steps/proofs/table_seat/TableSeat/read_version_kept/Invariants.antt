-- The step is made with what the cache keeps.
use Rattle.mdl_steps.proofs.table_seat.TableSeat.read_version_kept.Given as goal

abbrev pub ghosts-read_version_as : goal.ghosts-read_version_as
ghosts-read_version_as a = record { kept = a._cache.now.kept }
