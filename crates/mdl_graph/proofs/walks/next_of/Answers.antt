-- The first session that passes is the next one.
use Rattle.std.specs.Prelude.{◌&&◌, ◌==◌}
use Rattle.std.proofs.Common.{◌≡◌, ◌∙◌, ◌<◌, ◌≤◌, ◌-◌, true, ℕ, Bool, inl, inr, arith, length, ap, sym}
use Rattle.std.proofs.lemmas.Bool.{and_from, and_parts, cases_lt, eq-eqb, eqb-true, false≢true}
use Rattle.mdl_graph.specs.Searches.{level_of, waits_by}
use Rattle.mdl_graph.proofs.ChainLemmas.{fewer_left}
use Rattle.mdl_graph.proofs.WalkLemmas.{least_found, none_found, next_by_level}
use Rattle.mdl_graph.proofs.walks.next_of.Goals as goal

pub loop-at-init : goal.loop-at-init
loop-at-init c = record {
  here = λ next is. let at = c.first-at.ensures.here next is in (at.1, at.2);
  none = λ next inside level waiting. c.first-at.ensures.none next (omega arith) inside level;
}

pub loop-at-smaller : goal.loop-at-smaller
loop-at-smaller c =
    let next : ℕ = c.loop-at.at - 1 in
    let here = c.loop-at.invariant.here next (omega (arith, c.loop-at-test.true)) in
    fewer_left (length c.args.links.now.0) c.loop-at.at c.after-at.result (omega (arith, c.loop-at-test.true)) (omega (arith, here.0, c.loop-at-test.true))
    (λ other is. let later = c.after-at.ensures.here other is in (omega (arith, later.0, c.loop-at-test.true), later.1))

pub loop-at-preserved : goal.loop-at-preserved
loop-at-preserved c =
    let waits : ℕ → ℕ → Bool = waits_by c.args.waits.now c.args.stands.now in
    let levels = c.args.links.now.0 in
    let inv = c.loop-at.invariant in
    let looked_at : ℕ = c.loop-at.at - 1 in
    let here = inv.here looked_at (omega (arith, c.loop-at-test.true)) in
    record {
      here = λ next is. let later = c.after-at.ensures.here next is in (later.1, later.2 ∙ here.1);
      none = λ next inside level waiting. elim (cases_lt looked_at next) [
        | inl later ↦ c.after-at.ensures.none next (omega (arith, later)) inside (level ∙ sym here.1)
        | inr before ↦
            let was = inv.none next inside level waiting in
            let same : looked_at ≡ next = omega (arith, was.0, was.1, before) in
            absurd (false≢true (c.if-waits_for.ensures ∙ ap (waits c.args.session) same ∙ waiting))
      ];
    }

pub returns-then-waits_for-clause-value : goal.returns-then-waits_for-clause-value
returns-then-waits_for-clause-value c = λ from.
    let waits : ℕ → ℕ → Bool = waits_by c.args.waits.now c.args.stands.now in
    let levels = c.args.links.now.0 in
    let inv = c.loop-at.invariant in
    let test : ℕ → Bool = λ next. (level_of levels next == c.args.steps) && waits c.args.session next in
    let found : ℕ = c.loop-at.at - 1 in
    let here = inv.here found (omega (arith, c.loop-at-test.true)) in
    let passes : test found ≡ true =
    and_from (level_of levels found == c.args.steps) (waits c.args.session found) (eq-eqb (level_of levels found) c.args.steps here.1) (sym c.if-waits_for.ensures) in
    let lower : (next : ℕ) → next < length levels → test next ≡ true → found ≤ next = λ next inside also.
    let parts = and_parts (level_of levels next == c.args.steps) (waits c.args.session next) also in
    let later = inv.none next inside (eqb-true (level_of levels next) c.args.steps parts.0) parts.1 in omega (arith, later.1) in
    next_by_level waits from levels c.args.steps c.args.session found c.requires.some
    (least_found test (length levels) found c.args.session here.0 passes lower)

pub returns-clause-value : goal.returns-clause-value
returns-clause-value c = λ from.
    let waits : ℕ → ℕ → Bool = waits_by c.args.waits.now c.args.stands.now in
    let levels = c.args.links.now.0 in
    let test : ℕ → Bool = λ next. (level_of levels next == c.args.steps) && waits c.args.session next in
    next_by_level waits from levels c.args.steps c.args.session c.args.session c.requires.some
    (none_found test (length levels) c.args.session (λ next inside passes.
    let parts = and_parts (level_of levels next == c.args.steps) (waits c.args.session next) passes in
    let left = c.loop-at.invariant.none next inside (eqb-true (level_of levels next) c.args.steps parts.0) parts.1 in
    omega (arith, left.0, c.loop-at-test.false)))
