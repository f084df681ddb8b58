-- What is found among the places that are left is the least unused one of all.
use Rattle.std.proofs.Common.{◌≡◌}
use Rattle.mdl_core.specs.Words.{unused_place}
use Rattle.mdl_space.proofs.PlaceLemmas.{found_after}
use Rattle.mdl_space.proofs.core_space.CoreSpace.unused_place.Given as goal

abbrev pub invariant-loop-index : goal.invariant-loop-index
invariant-loop-index l = found_after l.self l.index ≡ unused_place l.self
