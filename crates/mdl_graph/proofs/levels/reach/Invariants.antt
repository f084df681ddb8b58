-- What became of those who wait in the row so far.
use Rattle.std.proofs.Common.{◌≡◌, ◌+◌, ℕ, length, take}
use Rattle.std.specs.Prelude.{not, ◌&&◌, ◌||◌, ◌==◌}
use Rattle.mdl_graph.specs.Searches.{level_of, opened, stands_in, unreached, waits_in}
use Rattle.mdl_graph.proofs.levels.reach.Given as goal

abbrev pub invariant-loop-wait : goal.invariant-loop-wait
invariant-loop-wait l = record {
  len : length l.levels.items ≡ length l.fn.levels.items;
  levels : (session : ℕ) → level_of l.levels.items session
      ≡ opened l.steps (waits_in (take l.wait-index l.wait-items) l.row l.next session) (level_of l.fn.levels.items session);
  reached : (session : ℕ) → stands_in l.reached.items session
      ≡ (stands_in l.fn.reached.items session || ((level_of l.fn.levels.items session == 0) && not (level_of l.levels.items session == 0)));
  count : length l.reached.items + unreached l.levels.items ≡ length l.fn.reached.items + unreached l.fn.levels.items;
}
