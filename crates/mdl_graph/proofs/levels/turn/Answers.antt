-- The waiters of one row more are offered the step, unless all were reached.
use Rattle.std.proofs.Common.{◌≡◌, ◌<◌, ◌∙◌, ◌-◌, ℕ, Bool, suc, not, sym, ap, arith, true, false}
use Rattle.std.specs.Prelude.{◌||◌, ◌==◌, slice_index_or, length}
use Rattle.std.proofs.lemmas.Bool.{and_parts}
use Rattle.std.proofs.lemmas.Bool.Decides.{nat_tests}
use Rattle.std.proofs.lemmas.Grind.{common_steps}
use Rattle.mdl_graph.specs.Searches.{level_of, opened, stands_in, holds, waits_in}
use Rattle.mdl_graph.proofs.LevelLemmas.{opened-twice, turn-skip, done-more, reached-more}
use Rattle.mdl_graph.proofs.LinkLemmas.{any_from, way-begun, way-inside, way-more, way-step, way-none}
use Rattle.mdl_graph.proofs.levels.turn.Goals as goal

pub loop-at-init : goal.loop-at-init
loop-at-init c = record {
  way = way-begun c.args.stands.now c.args.next c.last-at.result c.last-at.ensures;
  len = grind arith;
  rows = grind arith;
  done = c.requires.done;
  levels = λ session.
      let none : any_from (λ row. waits_in c.args.waits.now row c.args.next session) c.args.stands.now c.args.next c.last-at.result ≡ false =
      way-none (λ row. waits_in c.args.waits.now row c.args.next session) c.args.stands.now c.args.next c.last-at.result c.last-at.ensures in
      rw none (grind (arith, nat_tests));
  reached = λ session. grind (arith, nat_tests);
  count = grind arith;
}

pub loop-at-preserved-then-not-index : goal.loop-at-preserved-then-not-index
loop-at-preserved-then-not-index c =
    let stands = c.args.stands.now in
    let waits = c.args.waits.now in
    let place : ℕ = c.loop-at.at - 1 in
    let at_is : c.loop-at.at ≡ suc place = omega (arith, c.loop-at-test.true) in
    let steps = c.args.steps in
    let next = c.args.next in
    let row = c.row-row.result in
    let inv = c.loop-at.invariant in
    let rest : ℕ → Bool = λ session. any_from (λ row. waits_in waits row next session) stands next c.loop-at.at in
    let levels : (session : ℕ) → level_of c.reach.new.levels.items session
    ≡ opened steps (waits_in waits row next session) (opened steps (rest session) (level_of c.args.levels.now.items session)) =
    λ session. c.in_ok-reach.ensures.levels session ∙ ap (opened steps (waits_in waits row next session)) (inv.levels session) in
    let near : place < length stands = omega (arith, at_is, way-inside stands next c.loop-at.at inv.way) in
    let inside : row < length c.loop-at.done.items = omega (arith, c.requires.rows place near, inv.rows, c.row-row.ensures) in
    let level : c.level_at.result ≡ level_of c.reach.new.levels.items next = grind (arith, common_steps) in
    let raised : not (c.level_at.result == 0) ≡ true → 0 < level_of c.reach.new.levels.items next = λ is. grind (arith, nat_tests, is, level) in
    record {
      way = way-more stands next c.loop-at.at place c.before-at.result at_is inv.way c.before-at.ensures;
      len = c.in_ok-reach.ensures.len ∙ inv.len;
      rows = grind (arith, common_steps);
      done = done-more c.loop-at.done.items row _ waits c.loop-at.levels.items c.reach.new.levels.items next steps inv.done c.in_ok-reach.ensures.levels c.requires.steps inside raised;
      levels = λ session.
          let known = level_of c.args.levels.now.items session in
          let step : any_from (λ row. waits_in waits row next session) stands next c.before-at.result ≡ (waits_in waits row next session || rest session) =
          way-step (λ row. waits_in waits row next session) stands next c.loop-at.at place c.before-at.result at_is inv.way c.before-at.ensures
          ∙ ap (λ (r : ℕ). waits_in waits r next session || rest session) (sym c.row-row.ensures) in
          levels session ∙ opened-twice steps known (rest session) (waits_in waits row next session) c.requires.steps
          ∙ ap (λ (b : Bool). opened steps b known) (sym step);
      reached = λ session.
          let known = level_of c.args.levels.now.items session in
          let more = reached-more steps known (rest session) (waits_in waits row next session) (stands_in c.args.reached.now.items session) c.requires.steps in
          rw (c.in_ok-reach.ensures.reached session, inv.reached session, levels session, inv.levels session) more;
      count = c.in_ok-reach.ensures.count ∙ inv.count;
    }

pub loop-at-preserved : goal.loop-at-preserved
loop-at-preserved c =
    let stands = c.args.stands.now in
    let waits = c.args.waits.now in
    let place : ℕ = c.loop-at.at - 1 in
    let at_is : c.loop-at.at ≡ suc place = omega (arith, c.loop-at-test.true) in
    let steps = c.args.steps in
    let next = c.args.next in
    let row = c.row-row.result in
    let inv = c.loop-at.invariant in
    let rest : ℕ → Bool = λ session. any_from (λ row. waits_in waits row next session) stands next c.loop-at.at in
    let near : place < length stands = omega (arith, at_is, way-inside stands next c.loop-at.at inv.way) in
    let inside : row < length c.loop-at.done.items = omega (arith, c.requires.rows place near, inv.rows, c.row-row.ensures) in
    let flag : slice_index_or c.loop-at.done.items row false ≡ true = grind (arith, common_steps) in
    record {
      way = way-more stands next c.loop-at.at place c.before-at.result at_is inv.way c.before-at.ensures;
      len = inv.len;
      rows = inv.rows;
      done = inv.done;
      levels = λ session.
          let known = level_of c.args.levels.now.items session in
          let step : any_from (λ row. waits_in waits row next session) stands next c.before-at.result ≡ (waits_in waits row next session || rest session) =
          way-step (λ row. waits_in waits row next session) stands next c.loop-at.at place c.before-at.result at_is inv.way c.before-at.ensures
          ∙ ap (λ (r : ℕ). waits_in waits r next session || rest session) (sym c.row-row.ensures) in
          let done : waits_in waits row next session ≡ true → 0 < opened steps (rest session) known = λ here.
          let parts = and_parts (not (session == next)) (holds waits row session) here in
          let some : 0 < level_of c.loop-at.levels.items session = inv.done row session flag parts.1 in
          omega (arith, inv.levels session, some) in
          inv.levels session ∙ turn-skip steps known (waits_in waits row next session) (rest session) done
          ∙ ap (λ (b : Bool). opened steps b known) (sym step);
      reached = inv.reached;
      count = inv.count;
    }
