-- The pairs so far are linked.
use Rattle.std.proofs.Common.{◌≡◌, length, take}
use Rattle.mdl_graph.specs.Searches.{AreLinked}
use Rattle.mdl_graph.proofs.stands.Stands.new.Given as goal

abbrev pub invariant-loop-pair : goal.invariant-loop-pair
invariant-loop-pair l = record {
  len : length l.lasts.items ≡ l.count;
  linked : AreLinked l.lasts.items (take l.pair-index l.pairs) l.befores.items;
}
