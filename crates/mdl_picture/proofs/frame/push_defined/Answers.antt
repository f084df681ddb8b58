-- One behind the other.
use Rattle.std.proofs.Common.{[], ◌∷◌, codes}
use Rattle.mdl_picture.specs.Parts.{defined, hatch, head, style_sheet}
use Rattle.mdl_picture.specs.Shapes.{title}
use Rattle.mdl_picture.specs.Svg.{Node, alone, node_text}
use Rattle.mdl_picture.proofs.Pieces.{first, last_next, next}
use Rattle.mdl_picture.proofs.frame.push_defined.Goals as goal

pub returns : goal.returns
unfolding defined
returns c =
    let headline : Node = alone (title (codes "Timeline of a script, with a row for each session")) in
    last_next node_text c.push_head.result c.args.out.now.items c.push_hatch.new.out.items c.push_head.new.out.items
    (headline ∷ alone style_sheet ∷ hatch ∷ []) head
    (next node_text c.args.out.now.items c.push_style.new.out.items c.push_hatch.new.out.items (headline ∷ alone style_sheet ∷ []) hatch
    (next node_text c.args.out.now.items c.push_title.new.out.items c.push_style.new.out.items (headline ∷ []) (alone style_sheet)
    (first node_text c.args.out.now.items c.push_title.new.out.items headline c.in_ok-push_title.ensures) c.in_ok-push_style.ensures)
    c.in_ok-push_hatch.ensures) c.push_head.ensures
