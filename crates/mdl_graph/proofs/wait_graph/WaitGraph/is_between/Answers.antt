-- Who waits in no row, or stands against none, is in no cycle.
use Rattle.std.proofs.Common.{◌≡◌, ◌∙◌, ℕ, false, ap, sym}
use Rattle.std.specs.Prelude.{◌==◌}
use Rattle.std.specs.List.{list_any}
use Rattle.mdl_graph.specs.Graphs.{GraphView, waits}
use Rattle.mdl_graph.specs.Searches.{Pairs, are_joined, ties_of}
use Rattle.mdl_graph.proofs.FreeLemmas.{none_waits, waits_for_none}
use Rattle.mdl_graph.proofs.JoinLemmas.{ties_join}
use Rattle.mdl_graph.proofs.wait_graph.WaitGraph.is_between.Goals as goal

pub returns-then-waits_in_some : goal.returns-then-waits_in_some
returns-then-waits_in_some c = λ none.
    let rows = c.self.inside.waits.items in
    let against = c.self.inside.stands.items in
    let graph : GraphView = record { settled = c.self.inside.settled; wishes = c.self.inside.wishes.items; ties = ties_of rows against } in
    let same : (waiter other : ℕ) → are_joined rows against waiter other ≡ waits graph waiter other = λ waiter other. sym (ties_join rows against waiter other) in
    let off : list_any (λ stand. stand.0 == c.args.from) against ≡ false =
    ap (λ (pairs : Pairs). list_any (λ stand. stand.0 == c.args.from) pairs) (sym c.deref-then-waits_in_some.ensures.value) ∙ sym c.stands_in_some.ensures ∙ none in
    rw (← c.self.view_is) (none_waits graph rows against same c.args.from off)

pub returns-else-waits_in_some : goal.returns-else-waits_in_some
returns-else-waits_in_some c = λ none.
    let rows = c.self.inside.waits.items in
    let against = c.self.inside.stands.items in
    let graph : GraphView = record { settled = c.self.inside.settled; wishes = c.self.inside.wishes.items; ties = ties_of rows against } in
    let same : (waiter other : ℕ) → are_joined rows against waiter other ≡ waits graph waiter other = λ waiter other. sym (ties_join rows against waiter other) in
    let off : list_any (λ wait. wait.1 == c.args.from) rows ≡ false =
    ap (λ (pairs : Pairs). list_any (λ wait. wait.1 == c.args.from) pairs) (sym c.deref.ensures.value) ∙ sym c.waits_in_some.ensures ∙ none in
    rw (← c.self.view_is) (waits_for_none graph rows against same c.args.from off)
