-- The places that were added have no mark.
use Rattle.std.proofs.Common.{arith}
use Rattle.mdl_calls.proofs.MarkLemmas.{marked-resized}
use Rattle.mdl_calls.proofs.pins.Pins.reserve.Goals as goal

pub returns-in_ok-resize-clause-places : goal.returns-in_ok-resize-clause-places
returns-in_ok-resize-clause-places c =
    rw (← c.self.view_is) (marked-resized c.self.inside.marks.items c.resize.new.self.items c.args.slots _ (omega (arith, c.if-len-slots.true, c.len.ensures)) c.in_ok-resize.ensures.items)
