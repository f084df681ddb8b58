-- What was put there, and the lines behind.
use Rattle.std.proofs.Common.{◌≡◌, ◌++◌, drop, filter, map}
use Rattle.std.specs.List.{flat_map}
use Rattle.mdl_picture.specs.Parts.{line_shapes}
use Rattle.mdl_picture.specs.Svg.{shape_text}
use Rattle.mdl_picture.specs.Texts.{has_bytes, lines_of}
use Rattle.mdl_picture.proofs.boxes.push_lines.Given as goal

abbrev pub invariant-loop-line : goal.invariant-loop-line
invariant-loop-line l =
    l.out.items ++ flat_map shape_text (line_shapes l.kind l.x l.at (filter has_bytes (map (λ line. line.now) (drop l.line-index l.line-items))))
    ≡ l.fn.out.items ++ flat_map shape_text (line_shapes l.kind l.x l.y (lines_of l.room l.text))
