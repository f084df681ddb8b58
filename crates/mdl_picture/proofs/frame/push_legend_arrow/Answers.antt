-- One behind the other.
use Rattle.std.proofs.Common.{[], ◌∷◌, codes}
use Rattle.mdl_picture.specs.declared.kind.Kind.TheVariants.{Arrow, Words}
use Rattle.mdl_picture.specs.Shapes.{line, words}
use Rattle.mdl_picture.specs.Svg.{alone, node_text}
use Rattle.mdl_picture.proofs.Pieces.{first, last_next}
use Rattle.mdl_picture.proofs.frame.push_legend_arrow.Goals as goal

pub returns : goal.returns
returns c =
    last_next node_text c.push_words.result c.args.out.now.items c.push_line.new.out.items c.push_words.new.out.items
    (alone (line Arrow 180 c.args.foot 180 c.args.top) ∷ []) (alone (words Words 190 c.args.base (codes "waits for (when the wait began)")))
    (first node_text c.args.out.now.items c.push_line.new.out.items (alone (line Arrow 180 c.args.foot 180 c.args.top)) c.in_ok-push_line.ensures)
    c.push_words.ensures
