-- So much was put there.
use Rattle.std.proofs.Common.{◌≡◌, ◌++◌, map, take}
use Rattle.std.specs.List.{flat_map}
use Rattle.mdl_picture.specs.Parts.{lane}
use Rattle.mdl_picture.specs.Svg.{node_text}
use Rattle.mdl_picture.proofs.tracks.push_lanes.Given as goal

abbrev pub invariant-loop-row : goal.invariant-loop-row
invariant-loop-row l = l.out.items ≡ l.fn.out.items ++ flat_map node_text (map (lane l.width l.rows) (take l.row-index l.rows))
