-- What was searched so far, and who is to be looked at next.
use Rattle.std.proofs.Common.{◌≡◌, ◌+◌, ◌<◌, ◌≤◌, ℕ, [], length}
use Rattle.mdl_graph.specs.Searches.{AreDone, IsSearched, is_at, stands_in, unreached, waits_by}
use Rattle.mdl_graph.proofs.levels.levels_back.Given as goal

abbrev pub invariant-loop-levels : goal.invariant-loop-levels
invariant-loop-levels l = record {
  len : length l.levels.items ≡ l.count;
  rows : length l.done.items ≡ l.rows;
  done : AreDone l.done.items l.waits l.levels.items;
  searched : IsSearched (waits_by l.waits l.stands) l.from l.levels.items l.steps;
  front : (session : ℕ) → stands_in l.front.items session ≡ is_at l.levels.items l.from l.steps session;
  reached : l.reached.items ≡ [];
  room : 0 < length l.front.items → l.steps + unreached l.levels.items ≤ l.count;
}

abbrev pub decreases-loop-levels : goal.decreases-loop-levels
decreases-loop-levels l = length l.front.items + unreached l.levels.items
