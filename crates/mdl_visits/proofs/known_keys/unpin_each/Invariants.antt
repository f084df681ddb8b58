-- The places so far aren't pinned any more, and the other marks are as they were.
use Rattle.std.proofs.Common.{◌≡◌, ◌++◌, take, drop}
use Rattle.std.specs.Prelude.{map}
use Rattle.mdl_visits.specs.OwnKeys.{unpinned}
use Rattle.mdl_visits.proofs.known_keys.unpin_each.Given as goal

abbrev pub invariant-loop-mark : goal.invariant-loop-mark
invariant-loop-mark l = l.marks ≡ map unpinned (take l.mark-index l.fn.marks) ++ drop l.mark-index l.fn.marks
