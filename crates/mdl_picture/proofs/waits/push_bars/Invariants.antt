-- So much was put there.
use Rattle.std.proofs.Common.{◌≡◌, ◌++◌, map, take}
use Rattle.std.specs.List.{flat_map}
use Rattle.mdl_picture.specs.Parts.{bar_node}
use Rattle.mdl_picture.specs.Svg.{node_text}
use Rattle.mdl_picture.proofs.waits.push_bars.Given as goal

abbrev pub invariant-loop-bar : goal.invariant-loop-bar
invariant-loop-bar l = l.out.items ≡ l.fn.out.items ++ flat_map node_text (map (bar_node l.rows l.end) (take l.bar-index l.bars))
