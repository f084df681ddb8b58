-- Those counted, and those behind.
use Rattle.std.proofs.Common.{◌≡◌, ◌+◌, drop}
use Rattle.mdl_view_text.specs.LeftOuts.{waiting_among}
use Rattle.mdl_view_text.proofs.left_out.waiting_among.Given as goal

abbrev pub invariant-loop-class : goal.invariant-loop-class
invariant-loop-class l = l.count + waiting_among (drop l.class-index l.classes) ≡ waiting_among l.classes
