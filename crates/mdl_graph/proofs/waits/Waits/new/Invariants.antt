-- The spans have all pairs so far.
use Rattle.std.proofs.Common.{◌≡◌, length, take}
use Rattle.mdl_graph.specs.Searches.{AreSpanned}
use Rattle.mdl_graph.proofs.waits.Waits.new.Given as goal

abbrev pub invariant-loop-place : goal.invariant-loop-place
invariant-loop-place l = record {
  len : length l.spans.items ≡ l.rows;
  spanned : AreSpanned l.spans.items (take l.place l.pairs);
}
