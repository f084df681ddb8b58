-- The copy has the requests and the waits of the others.
use Rattle.std.proofs.Common.{◌≡◌, ◌∙◌, ℕ, List, ap}
use Rattle.std.specs.Prelude.{filter}
use Rattle.std.specs.FinSet as set
use Rattle.std.proofs.lemmas.Result.{IfOk-weaker}
use Rattle.mdl_graph.specs.declared.cycle.Member.{Member}
use Rattle.mdl_graph.specs.Graphs.{GraphView, cycle_found, deadlock, unsettled_deadlock, waits}
use Rattle.mdl_graph.specs.WaitsFor.{is_unsettled}
use Rattle.mdl_graph.proofs.wait_graph.WaitGraph.find_unsettled_cycle.Goals as goal

pub returns : goal.returns
returns c =
    let left : GraphView = c.in_ok-unsettled.unsettled in
    let before : GraphView = c.args.self.now in
    let from : ℕ = c.args.from in
    let same : deadlock left from ≡ unsettled_deadlock (set.contains c.args.settled.now) before from =
    ap (λ (wishes : List Member). cycle_found wishes (waits left) from) c.in_ok-unsettled.ensures.wishes
    ∙ (λ i. cycle_found (filter (λ (wish : Member). is_unsettled (set.contains c.args.settled.now) wish.session) before.wishes)
    (λ waiter other. c.in_ok-unsettled.ensures.waits waiter other i) from) in
    IfOk-weaker c.find_cycle.result _ _ (λ found is. is ∙ same) c.find_cycle.ensures
