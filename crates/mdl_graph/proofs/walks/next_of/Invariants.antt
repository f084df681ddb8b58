-- Each session that passes is the next one to be looked at, or comes after it.
use Rattle.std.proofs.Common.{◌≡◌, ◌<◌, ◌≤◌, ℕ, suc, true, length}
use Rattle.mdl_graph.specs.Searches.{waits_by, level_of}
use Rattle.mdl_graph.proofs.ChainLemmas.{left_from}
use Rattle.mdl_graph.proofs.walks.next_of.Given as goal

abbrev pub invariant-loop-at : goal.invariant-loop-at
invariant-loop-at l = record {
  here : (next : ℕ) → l.at ≡ suc next → (next < length l.links.0) × (level_of l.links.0 next ≡ l.steps);
  none : (next : ℕ) → next < length l.links.0 → level_of l.links.0 next ≡ l.steps → waits_by l.waits l.stands l.session next ≡ true
      → (0 < l.at) × (l.at ≤ suc next);
}

abbrev pub decreases-loop-at : goal.decreases-loop-at
decreases-loop-at l = left_from (length l.links.0) l.at
