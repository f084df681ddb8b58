-- The weights of the sessions' first requests among those from this one on.
use Rattle.std.proofs.Common.{◌≡◌, ◌<◌, ◌==◌, ℕ, length, drop}
use Rattle.std.specs.Prelude.{find, slice_index}
use Rattle.mdl_graph.specs.Graphs.{weight_found}
use Rattle.mdl_graph.proofs.weights.weights_of.Given as goal

abbrev pub invariant-loop-index : goal.invariant-loop-index
invariant-loop-index l = record {
  len : length l.weights.items ≡ l.count;
  weights : (session : ℕ) → session < l.count
      → slice_index l.weights.items session ≡ weight_found (find (λ wish. wish.session == session) (drop l.index l.wishes));
}
