-- The others' requests are kept, with all rows.
use Rattle.std.proofs.Common.{◌≡◌, ◌∙◌, ◌++◌, ℕ, Bool, List, length, ap, sym}
use Rattle.std.specs.Prelude.{◌&&◌, filter}
use Rattle.std.specs.FinSet as set
use Rattle.mdl_graph.specs.declared.cycle.Member.{Member}
use Rattle.mdl_graph.specs.Searches.{Pairs, are_joined}
use Rattle.mdl_graph.specs.WaitsFor.{SessionTest, is_unsettled}
use Rattle.mdl_graph.proofs.JoinLemmas.{ties_join}
use Rattle.mdl_graph.proofs.UnsettledLemmas.{joined_left, wished_left}
use Rattle.mdl_graph.proofs.wait_graph.WaitGraph.without.Goals as goal

pub returns-clause-waits : goal.returns-clause-waits
returns-clause-waits c = λ waiter other.
    let rows = c.self.inside.waits.items in
    let against = c.self.inside.stands.items in
    let settled : SessionTest = set.contains c.args.settled.now in
    let kept : c.in_ok-waits.waits.items ≡ filter (λ (wait : ℕ × ℕ). is_unsettled settled wait.1) rows =
    c.in_ok-waits.ensures ∙ ap (filter (λ (wait : ℕ × ℕ). is_unsettled settled wait.1)) c.deref-2.ensures.value in
    let same : c.extend_from_slice-2.new.self.items ≡ against = c.in_ok-extend_from_slice-2.ensures.items
    ∙ ap (λ (before : Pairs). before ++ c.deref-4.result.now) c.new-stands.ensures.items ∙ c.deref-4.ensures.value in
    rw (← c.self.view_is)
    (ties_join c.in_ok-waits.waits.items c.extend_from_slice-2.new.self.items waiter other
    ∙ (λ i. are_joined (kept i) (same i) waiter other)
    ∙ joined_left settled rows against waiter other
    ∙ ap (λ (b : Bool). is_unsettled settled waiter && b) (sym (ties_join rows against waiter other)))

pub invariant_of-result : goal.invariant_of-result
invariant_of-result c =
    let inside = c.self.inside in
    let settled : SessionTest = set.contains c.args.settled.now in
    let wishes : c.in_ok-wishes.wishes.items ≡ filter (λ (wish : Member). is_unsettled settled wish.session) inside.wishes.items =
    c.in_ok-wishes.ensures ∙ ap (filter (λ (wish : Member). is_unsettled settled wish.session)) c.deref.ensures.value in
    let kept : c.in_ok-waits.waits.items ≡ filter (λ (wait : ℕ × ℕ). is_unsettled settled wait.1) inside.waits.items =
    c.in_ok-waits.ensures ∙ ap (filter (λ (wait : ℕ × ℕ). is_unsettled settled wait.1)) c.deref-2.ensures.value in
    let ranks : c.extend_from_slice.new.self.items ≡ inside.ranks.items = c.in_ok-extend_from_slice.ensures.items
    ∙ ap (λ (before : List ℕ). before ++ c.deref-3.result.now) c.new-ranks.ensures.items ∙ c.deref-3.ensures.value in
    let stands : c.extend_from_slice-2.new.self.items ≡ inside.stands.items = c.in_ok-extend_from_slice-2.ensures.items
    ∙ ap (λ (before : Pairs). before ++ c.deref-4.result.now) c.new-stands.ensures.items ∙ c.deref-4.ensures.value in
    rw (wishes, kept, ranks, stands) (wished_left settled inside.wishes.items (length inside.ranks.items) inside.waits.items inside.stands.items c.self.invariant)
