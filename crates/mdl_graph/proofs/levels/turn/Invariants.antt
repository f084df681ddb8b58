-- What became of those who wait in the rows of the session, from a place on.
use Rattle.std.proofs.Common.{◌≡◌, ◌+◌, ℕ, length}
use Rattle.std.specs.Prelude.{not, ◌&&◌, ◌||◌, ◌==◌}
use Rattle.mdl_graph.specs.Searches.{AreDone, level_of, opened, stands_in, unreached, waits_in}
use Rattle.mdl_graph.proofs.LinkLemmas.{IsOnWay, any_from}
use Rattle.mdl_graph.proofs.levels.turn.Given as goal

abbrev pub invariant-loop-at : goal.invariant-loop-at
invariant-loop-at l = record {
  way : IsOnWay l.stands l.next l.at;
  len : length l.levels.items ≡ length l.fn.levels.items;
  rows : length l.done.items ≡ length l.fn.done.items;
  done : AreDone l.done.items l.waits l.levels.items;
  levels : (session : ℕ) → level_of l.levels.items session
      ≡ opened l.steps (any_from (λ row. waits_in l.waits row l.next session) l.stands l.next l.at) (level_of l.fn.levels.items session);
  reached : (session : ℕ) → stands_in l.reached.items session
      ≡ (stands_in l.fn.reached.items session || ((level_of l.fn.levels.items session == 0) && not (level_of l.levels.items session == 0)));
  count : length l.reached.items + unreached l.levels.items ≡ length l.fn.reached.items + unreached l.fn.levels.items;
}

abbrev pub decreases-loop-at : goal.decreases-loop-at
decreases-loop-at l = l.at
