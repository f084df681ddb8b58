-- The keys of the places so far come before that of the place.
use Rattle.std.proofs.Common.{◌≡◌, ◌++◌, drop, take}
use Rattle.mdl_core.specs.Words.{put_in_order}
use Rattle.mdl_space.proofs.core_space.CoreSpace.put_in_order.Given as goal

abbrev pub invariant-loop-at : goal.invariant-loop-at
invariant-loop-at l =
    put_in_order l.self l.place l.other-items ≡ take l.at l.other-items ++ put_in_order l.self l.place (drop l.at l.other-items)
