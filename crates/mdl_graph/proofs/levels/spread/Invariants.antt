-- What became of those who wait for the sessions so far.
use Rattle.std.proofs.Common.{◌≡◌, ◌+◌, ℕ, length, take}
use Rattle.std.specs.Prelude.{not, ◌&&◌, ◌||◌, ◌==◌}
use Rattle.std.specs.List.{list_any}
use Rattle.mdl_graph.specs.Searches.{AreDone, level_of, opened, stands_in, unreached, waits_by}
use Rattle.mdl_graph.proofs.levels.spread.Given as goal

abbrev pub invariant-loop-next : goal.invariant-loop-next
invariant-loop-next l = record {
  len : length l.levels.items ≡ length l.fn.levels.items;
  rows : length l.done.items ≡ length l.fn.done.items;
  done : AreDone l.done.items l.waits l.levels.items;
  levels : (session : ℕ) → level_of l.levels.items session
      ≡ opened l.steps (list_any (waits_by l.waits l.stands session) (take l.next-index l.front)) (level_of l.fn.levels.items session);
  reached : (session : ℕ) → stands_in l.reached.items session
      ≡ (stands_in l.fn.reached.items session || ((level_of l.fn.levels.items session == 0) && not (level_of l.levels.items session == 0)));
  count : length l.reached.items + unreached l.levels.items ≡ length l.fn.reached.items + unreached l.fn.levels.items;
}
