-- The walk goes one session on, unless it is at its end.
use Rattle.std.proofs.Common.{◌≡◌, ◌∙◌, ◌++◌, ◌-◌, ◌+◌, ℕ, Bool, List, [], ◌∷◌, ◌<◌, length, map, sym, ap, append_assoc, arith, inl, inr}
use Rattle.std.proofs.lemmas.List.{get_or_default}
use Rattle.mdl_graph.specs.declared.cycle.Member.{Member}
use Rattle.mdl_graph.specs.Graphs.{member_of}
use Rattle.mdl_graph.specs.Searches.{waits_by, walk, next_of}
use Rattle.mdl_graph.proofs.WalkLemmas.{walk_more, walk_over}
use Rattle.mdl_graph.proofs.walks.walk.Goals.{then-step-steps, else-step-steps}
use Rattle.mdl_graph.proofs.walks.walk.Goals as goal

pub loop-step-preserved : goal.loop-step-preserved
loop-step-preserved c =
    let waits : ℕ → ℕ → Bool = waits_by c.args.waits.now c.args.stands.now in
    let levels = c.args.levels.now in
    let from = c.args.from in
    let wishes = c.args.wishes.now in
    let at = c.loop-step.session in
    let left : ℕ = c.args.steps - (c.loop-step.step + 1) in
    let rest : List ℕ = walk waits from levels left (next_of waits from levels left at) in
    let member : Member = member_of wishes at in
    let inside : at < c.max.result = omega (arith, c.loop-step.invariant.weighed, c.in_ok-weights.ensures.len) in
    let weight : c.index.result.now ≡ member.weight =
    c.index.ensures ∙ get_or_default c.in_ok-weights.weights.items at c.index.result.now 0 c.loop-step.invariant.weighed ∙ c.in_ok-weights.ensures.weights at inside in
    let staged : c.in_ok-links.links ≡ (levels, c.args.steps) = c.in_ok-links.ensures in
    let more : walk waits from levels (c.args.steps - c.loop-step.step) at ≡ at ∷ rest = walk_more waits from levels c.args.steps c.loop-step.step at c.loop-step-test.true in
    let onward : (session : ℕ) → walk waits from levels left session ≡ rest
    → c.push.new.self.items ++ map (member_of wishes) (walk waits from levels left session) ≡ map (member_of wishes) (walk waits from levels c.args.steps from) =
    λ session same.
    rw (c.in_ok-push.ensures.items, weight, same)
    (append_assoc c.loop-step.members.items (member ∷ []) (map (member_of wishes) rest)
    ∙ ap (λ (sessions : List ℕ). c.loop-step.members.items ++ map (member_of wishes) sessions) (sym more)
    ∙ c.loop-step.invariant.rest) in
    elim c.if-step-steps.branch [
      | then-step-steps w ↦
          let left_is : c.args.steps - 1 - c.loop-step.step ≡ left = omega arith in
          let next : w.next_of-session.result ≡ next_of waits from levels left at =
          w.next_of-session.ensures.value from
          ∙ ap (λ (links : List ℕ × ℕ). next_of waits from links.0 (c.args.steps - 1 - c.loop-step.step) at) staged
          ∙ ap (λ (k : ℕ). next_of waits from levels k at) left_is in
          let many : length c.in_ok-links.links.0 ≡ length levels = ap (λ (links : List ℕ × ℕ). length links.0) staged in
          record {
            number = rw w.session-is (elim w.next_of-session.ensures.within [
              | inl below ↦ omega (arith, below, many, c.requires)
              | inr same ↦ omega (arith, same, c.loop-step.invariant.number)
            ]);
            weighed = rw w.session-is (elim w.next_of-session.ensures.within [
              | inl below ↦ omega (arith, below, many, c.max.ensures, c.in_ok-weights.ensures.len)
              | inr same ↦ omega (arith, same, c.loop-step.invariant.weighed)
            ]);
            rest = rw w.session-is (onward w.next_of-session.result (ap (λ (session : ℕ). walk waits from levels left session) next));
          }
      | else-step-steps w ↦ record {
        number = rw w.session-is c.loop-step.invariant.number;
        weighed = rw w.session-is c.loop-step.invariant.weighed;
        rest = rw w.session-is (onward at (walk_over waits from levels left at (next_of waits from levels left at) (omega (arith, w.if-step-steps.false))));
      }
    ]
