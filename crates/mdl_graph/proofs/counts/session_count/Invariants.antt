-- The sessions so far are below the count.
use Rattle.std.proofs.Common.{◌<◌, ◌≤◌, ℕ}
use Rattle.mdl_graph.specs.Searches.{AreBelow, key_at, value_at}
use Rattle.mdl_graph.proofs.counts.session_count.Given as goal

abbrev pub invariant-loop-wait : goal.invariant-loop-wait
invariant-loop-wait l = record {
  waits : (place : ℕ) → place < l.wait-index → value_at l.waits place < l.count;
  few : l.count ≤ 65536;
}

abbrev pub invariant-loop-stand : goal.invariant-loop-stand
invariant-loop-stand l = record {
  waits : AreBelow l.count l.waits;
  stands : (place : ℕ) → place < l.stand-index → key_at l.stands place < l.count;
  few : l.count ≤ 65536;
}
