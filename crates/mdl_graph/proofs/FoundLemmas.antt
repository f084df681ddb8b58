-- What a search finds is the chosen cycle of its graph.
use Rattle.std.proofs.Common.{◌≡◌, ◌<◌, ℕ, Bool, true, List, map, Some, None, ap, sym, ◌∙◌}
use Rattle.std.specs.List.{Contains}
use Rattle.std.specs.Option.{option_map}
use Rattle.mdl_graph.proofs.CycleLaws.{chosen_is, none_chosen, chosen_same}
use Rattle.mdl_graph.specs.Cycles.{chosen_cycle, IsCycleThrough}
use Rattle.mdl_graph.specs.Graphs.{GraphView, waits, member_of, deadlock}
use Rattle.mdl_graph.specs.Searches.{Pairs, are_joined, waits_by, IsOver, level_of, walk}
use Rattle.mdl_graph.proofs.JoinLemmas.{joined_by}
use Rattle.mdl_graph.proofs.WalkLemmas.{over-same, IsChosen, walk_is_chosen, no_cycle}

-- the sessions of a graph's wishes
abbrev sessions_of : GraphView → List ℕ
sessions_of graph = map (λ wish. wish.session) graph.wishes

-- where no list is a cycle, there is no deadlock
pub found_free : (graph : GraphView) (by_rows : ℕ → ℕ → Bool) → ((waiter other : ℕ) → by_rows waiter other ≡ waits graph waiter other)
    → (from : ℕ) → ((cycle : List ℕ) → IsCycleThrough by_rows from cycle → ⊥) → deadlock graph from ≡ None
found_free graph by_rows same from free =
    let sessions = sessions_of graph in
    let found : chosen_cycle (waits graph) sessions from ≡ None =
    chosen_same (waits graph) by_rows sessions from (λ waiter other. sym (same waiter other))
    ∙ none_chosen by_rows sessions from free in
    ap (option_map (map (member_of graph.wishes))) found

module _ (graph : GraphView) (by_rows : ℕ → ℕ → Bool) (same : (waiter other : ℕ) → by_rows waiter other ≡ waits graph waiter other)
    (from : ℕ) (levels : List ℕ) (over : IsOver by_rows from levels) where
  pub found_cycle : ((waiter other : ℕ) → waits graph waiter other ≡ true → Contains (sessions_of graph) waiter)
      → 0 < level_of levels from
      → Some (map (member_of graph.wishes) (walk by_rows from levels (level_of levels from) from)) ≡ deadlock graph from
  found_cycle wished some =
      let sessions = sessions_of graph in
      let walked = walk by_rows from levels (level_of levels from) from in
      let chosen : IsChosen by_rows from walked = walk_is_chosen by_rows from levels over some in
      let found : chosen_cycle (waits graph) sessions from ≡ Some walked =
      chosen_same (waits graph) by_rows sessions from (λ waiter other. sym (same waiter other))
      ∙ chosen_is by_rows sessions from walked (λ waiter other e. wished waiter other (sym (same waiter other) ∙ e)) chosen.is chosen.first in
      sym (ap (option_map (map (member_of graph.wishes))) found)

  pub found_none : level_of levels from ≡ 0 → None ≡ deadlock graph from
  found_none none = sym (found_free graph by_rows same from (no_cycle by_rows from levels over none))

-- a search that goes by links is one by rows
pub over_by : (waits stands links_of_waits links_of_stands : Pairs) (from at : ℕ) (levels : List ℕ) → links_of_waits ≡ waits → links_of_stands ≡ stands → at ≡ from
    → IsOver (waits_by links_of_waits links_of_stands) at levels → IsOver (are_joined waits stands) from levels
over_by waits stands links_of_waits links_of_stands from at levels waits_are stands_are same over =
    over-same (waits_by waits stands) (are_joined waits stands) from levels (λ a b. sym (joined_by waits stands a b)) (rw (← waits_are, ← stands_are, ← same) over)
