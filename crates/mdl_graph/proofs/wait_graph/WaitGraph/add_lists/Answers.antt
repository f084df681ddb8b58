-- Room changes nothing of the graph.
use Rattle.std.proofs.Common.{◌≡◌, ◌++◌, ℕ, [], ◌∷◌, List, subst}
use Rattle.std.specs.Prelude.{◌||◌, OnOk, OnErr}
use Rattle.mdl_book.specs.declared.book_view.BookView.{BookView}
use Rattle.mdl_graph.specs.Graphs.{GraphView, IsGraphOf, is_settled, waits}
use Rattle.mdl_graph.specs.Searches.{ties_of}
use Rattle.mdl_graph.specs.WaitsFor.{SessionTest, waits_at}
use Rattle.mdl_graph.proofs.wait_graph.WaitGraph.add_lists.Goals as goal

pub returns-clause-waits : goal.returns-clause-waits
returns-clause-waits c =
    let roomy : GraphView = record { settled = c.self.inside.settled; wishes = c.make_room.new.wishes.items; ties = ties_of c.make_room.new.waits.items c.make_room.new.stands.items } in
    let same : roomy ≡ c.args.self.now = rw (c.make_room.ensures.wishes, c.make_room.ensures.waits, c.make_room.ensures.stands) c.self.view_is in
    subst (λ (lock : BookView). OnOk c.add_reserved.result ((waiter other : ℕ) → waits c.add_reserved.new.self waiter other
    ≡ (waits c.args.self.now waiter other || waits_at (is_settled c.args.self.now) lock waiter other))) c.new-lists.ensures
    (subst (λ (graph : GraphView). OnOk c.add_reserved.result ((waiter other : ℕ) → waits c.add_reserved.new.self waiter other
    ≡ (waits graph waiter other || waits_at (is_settled graph) c.new-lists.result waiter other))) same c.add_reserved.ensures.waits)

pub returns-clause-graph : goal.returns-clause-graph
returns-clause-graph c =
    let roomy : GraphView = record { settled = c.self.inside.settled; wishes = c.make_room.new.wishes.items; ties = ties_of c.make_room.new.waits.items c.make_room.new.stands.items } in
    let same : roomy ≡ c.args.self.now = rw (c.make_room.ensures.wishes, c.make_room.ensures.waits, c.make_room.ensures.stands) c.self.view_is in
    subst (λ (lock : BookView). OnOk c.add_reserved.result ((settled : SessionTest) (books : List BookView) (one : BookView)
    → one.key.namespace ≡ lock.key.namespace → one.granted ≡ lock.granted → one.waiting ≡ lock.waiting
    → IsGraphOf settled books c.args.self.now → IsGraphOf settled (books ++ one ∷ []) c.add_reserved.new.self)) c.new-lists.ensures
    (subst (λ (graph : GraphView). OnOk c.add_reserved.result ((settled : SessionTest) (books : List BookView) (one : BookView)
    → one.key.namespace ≡ c.new-lists.result.key.namespace → one.granted ≡ c.new-lists.result.granted → one.waiting ≡ c.new-lists.result.waiting
    → IsGraphOf settled books graph → IsGraphOf settled (books ++ one ∷ []) c.add_reserved.new.self)) same c.add_reserved.ensures.graph)

pub returns-clause-unchanged : goal.returns-clause-unchanged
returns-clause-unchanged c =
    let roomy : GraphView = record { settled = c.self.inside.settled; wishes = c.make_room.new.wishes.items; ties = ties_of c.make_room.new.waits.items c.make_room.new.stands.items } in
    let same : roomy ≡ c.args.self.now = rw (c.make_room.ensures.wishes, c.make_room.ensures.waits, c.make_room.ensures.stands) c.self.view_is in
    subst (λ (graph : GraphView). OnErr c.add_reserved.result (c.add_reserved.new.self ≡ graph)) same c.add_reserved.ensures.unchanged
