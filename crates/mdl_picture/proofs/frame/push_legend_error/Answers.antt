-- One behind the other.
use Rattle.std.proofs.Common.{[], ◌∷◌, codes}
use Rattle.mdl_picture.specs.declared.kind.Kind.TheVariants.{Failed, Words}
use Rattle.mdl_picture.specs.Shapes.{rect, words}
use Rattle.mdl_picture.specs.Svg.{alone, node_text}
use Rattle.mdl_picture.proofs.Pieces.{first, last_next}
use Rattle.mdl_picture.proofs.frame.push_legend_error.Goals as goal

pub returns : goal.returns
returns c =
    last_next node_text c.push_words.result c.args.out.now.items c.push_rect.new.out.items c.push_words.new.out.items
    (alone (rect Failed 432 c.args.top 28 14) ∷ []) (alone (words Words 466 c.args.base (codes "ended by an error")))
    (first node_text c.args.out.now.items c.push_rect.new.out.items (alone (rect Failed 432 c.args.top 28 14)) c.in_ok-push_rect.ensures)
    c.push_words.ensures
