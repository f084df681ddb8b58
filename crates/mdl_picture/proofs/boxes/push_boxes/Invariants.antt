-- So much was put there.
use Rattle.std.proofs.Common.{◌≡◌, ◌++◌, map, take}
use Rattle.std.specs.List.{flat_map}
use Rattle.mdl_picture.specs.Parts.{box_node}
use Rattle.mdl_picture.specs.Svg.{node_text}
use Rattle.mdl_picture.proofs.boxes.push_boxes.Given as goal

abbrev pub invariant-loop-drawn : goal.invariant-loop-drawn
invariant-loop-drawn l = l.out.items ≡ l.fn.out.items ++ flat_map node_text (map (box_node l.rows) (take l.drawn-index l.boxes))
