-- The sessions that were looked at, and whose waits are settled.
use Rattle.std.proofs.Common.{◌≡◌, ℕ, ◌&&◌, nat_le}
use Rattle.std.specs.FinSet as set
use Rattle.mdl_core.specs.Words.{is_settled_wait, seat_at}
use Rattle.mdl_space.proofs.core_space.CoreSpace.settled_sessions.Given as goal

abbrev pub invariant-loop-index : goal.invariant-loop-index
invariant-loop-index l = (who : ℕ) → set.contains l.settled who ≡ (nat_le 1 who && nat_le who l.index && is_settled_wait (seat_at who l.self).wait)
