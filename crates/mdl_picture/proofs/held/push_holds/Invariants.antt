-- So much was put there.
use Rattle.std.proofs.Common.{◌≡◌, ◌++◌, map, take}
use Rattle.std.specs.List.{flat_map}
use Rattle.mdl_picture.specs.Parts.{hold_node}
use Rattle.mdl_picture.specs.Svg.{node_text}
use Rattle.mdl_picture.proofs.held.push_holds.Given as goal

abbrev pub invariant-loop-one : goal.invariant-loop-one
invariant-loop-one l = l.out.items ≡ l.fn.out.items ++ flat_map node_text (map (hold_node l.rows l.end) (take l.one-index l.placed))
