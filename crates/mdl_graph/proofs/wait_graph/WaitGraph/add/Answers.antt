-- The namespace and the lists are the book's.
use Rattle.std.proofs.Common.{◌≡◌, ◌∙◌, ℕ, [], length, ap, sym, subst}
use Rattle.std.specs.Prelude.{◌||◌, OnOk}
use Rattle.std.proofs.lemmas.Bool.{eqb-true}
use Rattle.std.proofs.lemmas.List.{nil_from_length}
use Rattle.std.proofs.lemmas.Result.{on_ok_weaker}
use Rattle.mdl_key.specs.Words.{KeyName}
use Rattle.mdl_book.specs.declared.book_view.BookView.{BookView}
use Rattle.mdl_graph.specs.Graphs.{is_settled, lock_of, waits}
use Rattle.mdl_graph.specs.WaitsFor.{waits_at}
use Rattle.mdl_graph.proofs.TieLemmas.{graph-idle, waits-idle, wishes-idle}
use Rattle.mdl_graph.proofs.wait_graph.WaitGraph.add.Goals as goal

pub returns-then-is_empty-clause-wishes : goal.returns-then-is_empty-clause-wishes
returns-then-is_empty-clause-wishes c =
    let none : c.args.book.now.waiting ≡ [] = sym c.waiting-waiting.ensures ∙ nil_from_length c.waiting-waiting.result.now (eqb-true (length c.waiting-waiting.result.now) 0 (sym c.is_empty.ensures ∙ c.if-is_empty.true)) in
    wishes-idle (is_settled c.args.self.now) c.args.book.now none c.args.self.now.wishes

pub returns-then-is_empty-clause-waits : goal.returns-then-is_empty-clause-waits
returns-then-is_empty-clause-waits c = λ waiter other.
    let none : c.args.book.now.waiting ≡ [] = sym c.waiting-waiting.ensures ∙ nil_from_length c.waiting-waiting.result.now (eqb-true (length c.waiting-waiting.result.now) 0 (sym c.is_empty.ensures ∙ c.if-is_empty.true)) in
    waits-idle (is_settled c.args.self.now) c.args.book.now none (waits c.args.self.now waiter other) waiter other

pub returns-then-is_empty-clause-graph : goal.returns-then-is_empty-clause-graph
returns-then-is_empty-clause-graph c = λ settled books was.
    let none : c.args.book.now.waiting ≡ [] = sym c.waiting-waiting.ensures ∙ nil_from_length c.waiting-waiting.result.now (eqb-true (length c.waiting-waiting.result.now) 0 (sym c.is_empty.ensures ∙ c.if-is_empty.true)) in
    graph-idle settled books c.args.book.now c.args.self.now none was

pub returns-clause-waits : goal.returns-clause-waits
returns-clause-waits c =
    let book = c.args.book.now in
    let namespace : c.namespace.result ≡ book.key.namespace = c.namespace.ensures ∙ ap (λ (key : KeyName). key.namespace) c.key.ensures in
    let same : lock_of c.namespace.result c.granted.result.now c.waiting-waiting.result.now ≡ lock_of book.key.namespace book.granted book.waiting =
    (λ i. lock_of (namespace i) (c.granted.ensures i) (c.waiting-waiting.ensures i)) in
    subst (λ (lock : BookView). OnOk c.add_lists.result ((waiter other : ℕ) → waits c.add_lists.new.self waiter other
    ≡ (waits c.args.self.now waiter other || waits_at (is_settled c.args.self.now) lock waiter other))) same c.add_lists.ensures.waits

pub returns-clause-graph : goal.returns-clause-graph
returns-clause-graph c =
    let namespace : c.namespace.result ≡ c.args.book.now.key.namespace = c.namespace.ensures ∙ ap (λ (key : KeyName). key.namespace) c.key.ensures in
    on_ok_weaker c.add_lists.result
    (λ graph settled books was. graph settled books c.args.book.now (sym namespace) (sym c.granted.ensures) (sym c.waiting-waiting.ensures) was)
    c.add_lists.ensures.graph
