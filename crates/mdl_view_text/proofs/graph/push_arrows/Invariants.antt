-- So much was put there.
use Rattle.std.proofs.Common.{◌≡◌, ◌++◌, take}
use Rattle.std.specs.List.{flat_map}
use Rattle.mdl_view_text.specs.Graph.{arrow}
use Rattle.mdl_view_text.proofs.graph.push_arrows.Given as goal

abbrev pub invariant-loop-blocking : goal.invariant-loop-blocking
invariant-loop-blocking l = l.out.items ≡ l.fn.out.items ++ flat_map (arrow l.names) (take l.blocking-index l.blockings)
