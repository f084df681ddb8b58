-- What the iterator gives of the set.
use Rattle.std.proofs.Common.{◌≡◌, ◌+◌, IfOk, refl, rules, subst, tests}
use Rattle.std.specs.FinSet as set
use Rattle.std.proofs.lemmas.Iterator.{YieldsList-from_range, items_from_collect}
use Rattle.std.proofs.lemmas.Iterator.Consumers.{YieldsList-at, YieldsList-from_filter}
use Rattle.mdl_key.specs.Words.{most_sessions}
use Rattle.mdl_graph.specs.WaitsFor.{waits_for}
use Rattle.mdl_view.specs.ViewLaws.{nobody}
use Rattle.mdl_script.specs.Worlds.{sessions}
use Rattle.mdl_timeline.proofs.WayLemmas.{in-order}
use Rattle.mdl_timeline.proofs.in_the_way.waited_for.Goals as goal

pub returns : goal.returns
unfolding sessions
returns c =
    let those = c.sessions_before-those.result in
    let kept = items_from_collect _ c.collect.ensures.ran (YieldsList-from_filter _ (set.contains those)
    (YieldsList-at c.filter.ensures.source (YieldsList-from_range 1 (most_sessions + 1) most_sessions refl refl)) c.filter.ensures.closure (λ x b q k. search (rules, tests))) in
    subst (λ xs. IfOk c.collect.result (λ those. those.items ≡ xs)) (in-order (waits_for nobody c.args.books.now c.args.who) those c.sessions_before-those.ensures) kept
