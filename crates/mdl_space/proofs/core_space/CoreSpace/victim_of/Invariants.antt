-- The graph is that of the books that were added.
use Rattle.std.proofs.Common.{take}
use Rattle.mdl_graph.specs.Graphs.{IsGraphOf}
use Rattle.mdl_core.specs.CoreCalls.{has_settled}
use Rattle.mdl_space.proofs.core_space.CoreSpace.victim_of.Given as goal

abbrev pub invariant-loop-book : goal.invariant-loop-book
invariant-loop-book l = IsGraphOf (has_settled l.self) (take l.book-index l.self.books) l.graph
