-- One class more.
use Rattle.std.proofs.Common.{arith}
use Rattle.mdl_view_text.specs.Why.{unread_line}
use Rattle.mdl_view_text.proofs.Pieces.{one_more}
use Rattle.mdl_view_text.proofs.unexplained.push_unread.Goals as goal

pub loop-left-preserved : goal.loop-left-preserved
loop-left-preserved c =
    one_more unread_line c.args.left_out.now c.loop-left.left-index c.left-item.result c.args.out.now.items c.loop-left.out.items
    c.push_unread_line.new.out.items (omega arith) c.left-item.is c.loop-left.invariant c.in_ok-push_unread_line.ensures
