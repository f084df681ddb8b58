-- The search says what the chosen cycle is.
use Rattle.std.proofs.Common.{◌≡◌, ◌<◌, ◌∙◌, ℕ, Bool, List, length, map, ap, sym, true, Some, arith}
use Rattle.std.specs.List.{Contains}
use Rattle.std.proofs.lemmas.Grind.{common_steps}
use Rattle.std.proofs.lemmas.List.{length-map}
use Rattle.mdl_graph.specs.declared.cycle.Member.{Member}
use Rattle.mdl_graph.specs.Graphs.{GraphView, member_of, waits}
use Rattle.mdl_graph.specs.Searches.{Pairs, are_joined, level_of, ties_of, waits_by, walk, IsOver}
use Rattle.mdl_graph.proofs.FoundLemmas.{found_none, found_cycle, over_by}
use Rattle.mdl_graph.proofs.JoinLemmas.{joined-apart, joined_links, rows-fresh, rows-known, ties_join}
use Rattle.mdl_graph.proofs.WalkLemmas.{length_walk, walk_of_two}
use Rattle.mdl_graph.proofs.wait_graph.WaitGraph.search.Goals as goal

pub new-requires : goal.new-requires
new-requires c =
    let len : c.len.result ≡ length c.self.inside.ranks.items = grind (arith, common_steps) in
    rw (c.deref-3.ensures.value, len) (rows-known (length c.self.inside.ranks.items) c.self.inside.waits.items c.self.invariant.known)

pub levels_back-requires-clause-rows : goal.levels_back-requires-clause-rows
levels_back-requires-clause-rows c =
    let len : c.len-2.result ≡ length c.self.inside.ranks.items = grind (arith, common_steps) in
    let stands : c.in_ok-stands.stands ≡ c.self.inside.stands.items = c.in_ok-stands.ensures ∙ c.deref-4.ensures.value in
    rw (stands, len) (rows-fresh (length c.self.inside.ranks.items) c.self.inside.stands.items c.self.invariant.fresh)

pub returns-then-steps-eq0 : goal.returns-then-steps-eq0
returns-then-steps-eq0 c =
    let rows = c.self.inside.waits.items in
    let against = c.self.inside.stands.items in
    let levels = c.in_ok-levels.levels.items in
    let by_rows : ℕ → ℕ → Bool = are_joined rows against in
    let over : IsOver by_rows c.args.from levels =
    over_by rows against c.in_ok-waits.waits c.in_ok-stands.stands c.args.from c.from.result levels
    (c.in_ok-waits.ensures ∙ c.deref-3.ensures.value) (c.in_ok-stands.ensures ∙ c.deref-4.ensures.value) c.from.ensures c.in_ok-levels.ensures.over in
    let graph : GraphView = record { settled = c.self.inside.settled; wishes = c.self.inside.wishes.items; ties = ties_of rows against } in
    let same : (waiter other : ℕ) → by_rows waiter other ≡ waits graph waiter other = λ waiter other. sym (ties_join rows against waiter other) in
    let none : level_of levels c.args.from ≡ 0 = grind (arith, common_steps) in
    rw (← c.self.view_is) (found_none graph by_rows same c.args.from levels over none)

pub walk-requires : goal.walk-requires
walk-requires c = rw c.deref-6.ensures.value (omega (arith, c.in_ok-levels.ensures.len, c.session_count-count.ensures.few))

pub new-requires-3 : goal.new-requires-3
new-requires-3 c =
    let rows = c.self.inside.waits.items in
    let against = c.self.inside.stands.items in
    let levels = c.in_ok-levels.levels.items in
    let by_rows : ℕ → ℕ → Bool = are_joined rows against in
    let over : IsOver by_rows c.args.from levels =
    over_by rows against c.in_ok-waits.waits c.in_ok-stands.stands c.args.from c.from.result levels
    (c.in_ok-waits.ensures ∙ c.deref-3.ensures.value) (c.in_ok-stands.ensures ∙ c.deref-4.ensures.value) c.from.ensures c.in_ok-levels.ensures.over in
    let level : c.level_at-steps.result ≡ level_of levels c.args.from = grind (arith, common_steps) in
    let some : 0 < level_of levels c.args.from = grind (arith, common_steps, level) in
    let members : c.in_ok-members.members.items ≡ map (member_of c.self.inside.wishes.items) (walk by_rows c.args.from levels (level_of levels c.args.from) c.args.from) =
    let walked_by : Pairs → Pairs → List ℕ → ℕ → List Member = λ one other found steps. map (member_of c.self.inside.wishes.items) (walk (waits_by one other) c.args.from found steps c.args.from) in
    c.in_ok-members.ensures
    ∙ ap (λ (wishes : List Member). map (member_of wishes) (walk (waits_by c.in_ok-waits.waits c.in_ok-stands.stands) c.args.from c.deref-6.result.now c.level_at-steps.result c.args.from)) c.deref-7.ensures.value
    ∙ ap (λ (pairs : Pairs). walked_by pairs c.in_ok-stands.stands c.deref-6.result.now c.level_at-steps.result) (c.in_ok-waits.ensures ∙ c.deref-3.ensures.value)
    ∙ ap (λ (pairs : Pairs). walked_by rows pairs c.deref-6.result.now c.level_at-steps.result) (c.in_ok-stands.ensures ∙ c.deref-4.ensures.value)
    ∙ ap (λ (found : List ℕ). walked_by rows against found c.level_at-steps.result) c.deref-6.ensures.value
    ∙ ap (walked_by rows against levels) level
    ∙ ap (λ (waits : ℕ → ℕ → Bool). map (member_of c.self.inside.wishes.items) (walk waits c.args.from levels (level_of levels c.args.from) c.args.from)) (sym (joined_links rows against)) in
    let walked = walk by_rows c.args.from levels (level_of levels c.args.from) c.args.from in
    let len : length c.in_ok-members.members.items ≡ level_of levels c.args.from =
    ap (λ (list : List Member). length list) members ∙ length-map walked (member_of c.self.inside.wishes.items) ∙ length_walk by_rows c.args.from levels (level_of levels c.args.from) c.args.from in
    omega (arith, len, walk_of_two by_rows c.args.from levels over (joined-apart rows against c.args.from) some)

pub returns : goal.returns
returns c =
    let rows = c.self.inside.waits.items in
    let against = c.self.inside.stands.items in
    let levels = c.in_ok-levels.levels.items in
    let by_rows : ℕ → ℕ → Bool = are_joined rows against in
    let over : IsOver by_rows c.args.from levels =
    over_by rows against c.in_ok-waits.waits c.in_ok-stands.stands c.args.from c.from.result levels
    (c.in_ok-waits.ensures ∙ c.deref-3.ensures.value) (c.in_ok-stands.ensures ∙ c.deref-4.ensures.value) c.from.ensures c.in_ok-levels.ensures.over in
    let graph : GraphView = record { settled = c.self.inside.settled; wishes = c.self.inside.wishes.items; ties = ties_of rows against } in
    let same : (waiter other : ℕ) → by_rows waiter other ≡ waits graph waiter other = λ waiter other. sym (ties_join rows against waiter other) in
    let level : c.level_at-steps.result ≡ level_of levels c.args.from = grind (arith, common_steps) in
    let some : 0 < level_of levels c.args.from = grind (arith, common_steps, level) in
    let members : c.in_ok-members.members.items ≡ map (member_of c.self.inside.wishes.items) (walk by_rows c.args.from levels (level_of levels c.args.from) c.args.from) =
    let walked_by : Pairs → Pairs → List ℕ → ℕ → List Member = λ one other found steps. map (member_of c.self.inside.wishes.items) (walk (waits_by one other) c.args.from found steps c.args.from) in
    c.in_ok-members.ensures
    ∙ ap (λ (wishes : List Member). map (member_of wishes) (walk (waits_by c.in_ok-waits.waits c.in_ok-stands.stands) c.args.from c.deref-6.result.now c.level_at-steps.result c.args.from)) c.deref-7.ensures.value
    ∙ ap (λ (pairs : Pairs). walked_by pairs c.in_ok-stands.stands c.deref-6.result.now c.level_at-steps.result) (c.in_ok-waits.ensures ∙ c.deref-3.ensures.value)
    ∙ ap (λ (pairs : Pairs). walked_by rows pairs c.deref-6.result.now c.level_at-steps.result) (c.in_ok-stands.ensures ∙ c.deref-4.ensures.value)
    ∙ ap (λ (found : List ℕ). walked_by rows against found c.level_at-steps.result) c.deref-6.ensures.value
    ∙ ap (walked_by rows against levels) level
    ∙ ap (λ (waits : ℕ → ℕ → Bool). map (member_of c.self.inside.wishes.items) (walk waits c.args.from levels (level_of levels c.args.from) c.args.from)) (sym (joined_links rows against)) in
    let wished : (waiter other : ℕ) → waits graph waiter other ≡ true → Contains (map (λ (wish : Member). wish.session) graph.wishes) waiter =
    λ waiter other e. c.self.invariant.wished waiter other (sym (ties_join rows against waiter other) ∙ e) in
    rw (← c.self.view_is) (ap Some (c.new-3.ensures ∙ members) ∙ found_cycle graph by_rows same c.args.from levels over wished some)
