-- The sessions that were looked at, and whose waits aren't open.
use Rattle.std.proofs.Common.{◌≡◌, ℕ, take}
use Rattle.std.specs.FinSet as set
use Rattle.mdl_visits.specs.Searches.{settled_by}
use Rattle.mdl_visits.proofs.victim.settled_of.Given as goal

abbrev pub invariant-loop-read : goal.invariant-loop-read
invariant-loop-read l = (session : ℕ) → set.contains l.settled session ≡ settled_by (take l.read-index l.words) session
