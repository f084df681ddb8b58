-- So many threads were looked at.
use Rattle.std.proofs.Common.{◌≡◌, map, take}
use Rattle.mdl_lock_rows.specs.Owners.{bare}
use Rattle.mdl_lock_rows.proofs.numbering.bare_owners.Given as goal

abbrev pub invariant-loop-thread : goal.invariant-loop-thread
invariant-loop-thread l = l.owners.items ≡ map bare (take l.thread-index l.threads)
