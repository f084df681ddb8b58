-- So much was put there.
use Rattle.std.proofs.Common.{◌≡◌, ◌++◌, take}
use Rattle.std.specs.List.{flat_map}
use Rattle.mdl_picture.specs.Parts.{column_nodes}
use Rattle.mdl_picture.specs.Svg.{node_text}
use Rattle.mdl_picture.proofs.tracks.push_guides.Given as goal

abbrev pub invariant-loop-column : goal.invariant-loop-column
invariant-loop-column l = l.out.items ≡ l.fn.out.items ++ flat_map node_text (flat_map (column_nodes l.bottom) (take l.column-index l.columns))
