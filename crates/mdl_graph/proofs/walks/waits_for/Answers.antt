-- In the rows that the other one stands against the waiter is found, or not.
use Rattle.std.proofs.Common.{◌≡◌, ◌∙◌, ◌-◌, ◌||◌, ℕ, Bool, suc, refl, sym, ap, subst, arith, true, false}
use Rattle.std.specs.Prelude.{◌&&◌, ◌==◌, not}
use Rattle.std.proofs.lemmas.Bool.{eq-eqb}
use Rattle.mdl_graph.specs.Searches.{holds, waits_in}
use Rattle.mdl_graph.proofs.LinkLemmas.{any_from, way-begun, way-more, way-step, way-none}
use Rattle.mdl_graph.proofs.walks.waits_for.Goals.{else-waiter-other-via-then-waiter-other+else-has, else-waiter-other-via-else-waiter-other}
use Rattle.mdl_graph.proofs.walks.waits_for.Goals as goal

and_false : (b : Bool) → (b && false) ≡ false
and_false true = refl
and_false false = refl

pub loop-at-init : goal.loop-at-init
loop-at-init c = record {
  way = way-begun c.args.stands.now c.args.other c.last-at.result c.last-at.ensures;
  none = way-none (λ row. waits_in c.args.waits.now row c.args.other c.args.waiter) c.args.stands.now c.args.other c.last-at.result c.last-at.ensures;
}

pub loop-at-preserved : goal.loop-at-preserved
loop-at-preserved c =
    let waits = c.args.waits.now in
    let stands = c.args.stands.now in
    let waiter = c.args.waiter in
    let other = c.args.other in
    let place : ℕ = c.loop-at.at - 1 in
    let at_is : c.loop-at.at ≡ suc place = omega (arith, c.loop-at-test.true) in
    let inv = c.loop-at.invariant in
    let rest = any_from (λ row. waits_in waits row other waiter) stands other c.loop-at.at in
    let apart : waits_in waits c.row-row.result other waiter ≡ false = elim c.else-waiter-other.branch [
      | else-waiter-other-via-then-waiter-other+else-has w ↦
          ap (λ (b : Bool). not (waiter == other) && b) (sym w.has.ensures ∙ w.if-has.false) ∙ and_false (not (waiter == other))
      | else-waiter-other-via-else-waiter-other w ↦
          ap (λ (b : Bool). not b && holds waits c.row-row.result waiter) (eq-eqb waiter other w.if-waiter-other.false)
    ] in
    let step : any_from (λ row. waits_in waits row other waiter) stands other c.before-at.result ≡ (waits_in waits c.row-row.result other waiter || rest) =
    way-step (λ row. waits_in waits row other waiter) stands other c.loop-at.at place c.before-at.result at_is inv.way c.before-at.ensures
    ∙ ap (λ (r : ℕ). waits_in waits r other waiter || rest) (sym c.row-row.ensures) in
    record {
      way = way-more stands other c.loop-at.at place c.before-at.result at_is inv.way c.before-at.ensures;
      none = step ∙ ap (λ (b : Bool). b || rest) apart ∙ inv.none;
    }

pub returns : goal.returns
returns c =
    let end : c.loop-at.at ≡ 0 = omega (arith, c.loop-at-test.false) in
    sym (subst (λ (place : ℕ). any_from (λ row. waits_in c.args.waits.now row c.args.other c.args.waiter) c.args.stands.now c.args.other place ≡ false)
    end c.loop-at.invariant.none)
