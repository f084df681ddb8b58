-- The arrows so far, and those behind.
use Rattle.std.proofs.Common.{◌≡◌, ◌++◌, drop}
use Rattle.mdl_picture.specs.Arrows.{arrows_at, arrows_from}
use Rattle.mdl_picture.proofs.arrows.add_arrows.Given as goal

abbrev pub invariant-loop-other : goal.invariant-loop-other
invariant-loop-other l = l.arrows.items ++ arrows_at l.drawn l.x (drop l.other-index l.other-items) ≡ l.fn.arrows.items ++ arrows_from l.drawn
