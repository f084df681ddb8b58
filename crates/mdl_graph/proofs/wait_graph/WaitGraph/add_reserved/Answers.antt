-- What was added is there, and each waiter has a wish still.
use Rattle.std.proofs.Common.{◌∙◌, Bool, ap, sym, refl, length}
use Rattle.std.specs.Prelude.{◌||◌}
use Rattle.std.specs.FinSet as set
use Rattle.mdl_graph.specs.Graphs.{GraphView}
use Rattle.mdl_graph.specs.Searches.{ties_of}
use Rattle.mdl_graph.specs.WaitsFor.{waits_at}
use Rattle.mdl_graph.proofs.JoinLemmas.{ties_join}
use Rattle.mdl_graph.proofs.TieLemmas.{wished-more, graph-same}
use Rattle.mdl_graph.proofs.wait_graph.WaitGraph.add_reserved.Goals as goal

pub invariant_of-self : goal.invariant_of-self
invariant_of-self c =
    wished-more (set.contains c.self.inside.settled) c.args.book.now c.self.inside.wishes.items c.add_waiters.new.wishes.items
    (length c.self.inside.ranks.items) (length c.add_waiters.new.ranks.items)
    c.self.inside.waits.items c.self.inside.stands.items c.add_waiters.new.waits.items c.add_waiters.new.stands.items
    c.self.invariant c.in-Ok.ensures.wishes c.in-Ok.ensures.ties c.in-Ok.ensures.known c.in-Ok.ensures.fresh

pub returns-in-Ok-clause-waits : goal.returns-in-Ok-clause-waits
returns-in-Ok-clause-waits c = λ waiter other.
    rw (← c.self.view_is)
    (ties_join c.add_waiters.new.waits.items c.add_waiters.new.stands.items waiter other
    ∙ c.in-Ok.ensures.ties waiter other
    ∙ ap (λ (b : Bool). b || waits_at (set.contains c.self.inside.settled) c.args.book.now waiter other)
    (sym (ties_join c.self.inside.waits.items c.self.inside.stands.items waiter other)))

pub returns-in-Ok-clause-graph : goal.returns-in-Ok-clause-graph
returns-in-Ok-clause-graph c = λ settled books one key granted waiting was.
    let book = c.args.book.now in
    let before : GraphView = record { settled = c.self.inside.settled; wishes = c.self.inside.wishes.items; ties = ties_of c.self.inside.waits.items c.self.inside.stands.items } in
    let after : GraphView = record { settled = c.self.inside.settled; wishes = c.add_waiters.new.wishes.items; ties = ties_of c.add_waiters.new.waits.items c.add_waiters.new.stands.items } in
    graph-same settled books book one before after key granted waiting (rw (← c.self.view_is) at was) refl c.in-Ok.ensures.wishes
    (λ waiter other.
    ties_join c.add_waiters.new.waits.items c.add_waiters.new.stands.items waiter other
    ∙ c.in-Ok.ensures.ties waiter other
    ∙ ap (λ (b : Bool). b || waits_at (set.contains c.self.inside.settled) book waiter other)
    (sym (ties_join c.self.inside.waits.items c.self.inside.stands.items waiter other)))
