-- The pieces, one behind the other.
use Rattle.std.proofs.Common.{◌-◌, ◌++◌, arith, codes}
use Rattle.std.specs.Fmt.{decimal}
use Rattle.mdl_view_text.specs.LeftOuts.{most_classes}
use Rattle.mdl_view_text.proofs.LeftOutLemmas.{some_more}
use Rattle.mdl_view_text.proofs.Pieces.{behind, last_behind}
use Rattle.mdl_view_text.proofs.left_out.push_more.Goals as goal

pub returns : goal.returns
returns c =
    rw (some_more (c.args.classes - most_classes) (omega (arith, c.if-classes-le-MOST_CLASSES.false))) (
    last_behind c.push-2.result c.args.out.now.items (codes ", and of " ++ decimal (c.args.classes - most_classes)) (codes " more types") c.push_number.new.out.items c.push-2.new.out.items
    (behind c.args.out.now.items (codes ", and of ") (decimal (c.args.classes - most_classes)) c.push.new.out.items c.push_number.new.out.items
    c.in_ok-push.ensures c.in_ok-push_number.ensures) c.push-2.ensures)
