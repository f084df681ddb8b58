-- Each ticket that goes is still held when it is its turn.
use Rattle.std.proofs.Common.{◌≡◌, ◌≤◌, ◌∙◌, List, [], length, sym, ap, arith}
use Rattle.std.specs.Prelude.{map, filter, not}
use Rattle.std.proofs.lemmas.Bool.Decides.{nat_tests}
use Rattle.std.proofs.lemmas.List.{nil_from_length}
use Rattle.mdl_calls.specs.SessionLocks.{SessionLocks}
use Rattle.mdl_context.specs.declared.kept.Kept.{Kept}
use Rattle.mdl_context.specs.Contexts.{held_of, newest_first}
use Rattle.mdl_context.specs.Goings.{goes}
use Rattle.mdl_context.proofs.BeyondLemmas.{run-none}
use Rattle.mdl_context.proofs.ReleaseLemmas.{run-goes, run-stays, left-stays, holds-here, held-goes}
use Rattle.mdl_context.proofs.releasing.release_rest.Goals as goal

pub returns-then-is_empty-clause-run : goal.returns-then-is_empty-clause-run
returns-then-is_empty-clause-run g c =
    let none : c.args.holdings.now.kept ≡ [] = sym c.tickets-tickets.ensures ∙ nil_from_length c.tickets-tickets.result.now (grind (arith, nat_tests)) in
    run-none g.S.LockSpace.joins c.args.who _ c.args.space.now (ap (λ (kept : List Kept). newest_first (filter (goes c.args.going.now) kept)) none)

pub returns-then-is_empty-clause-kept : goal.returns-then-is_empty-clause-kept
returns-then-is_empty-clause-kept g c =
    let none : c.args.holdings.now.kept ≡ [] = sym c.tickets-tickets.ensures ∙ nil_from_length c.tickets-tickets.result.now (grind (arith, nat_tests)) in
    none ∙ sym (ap (filter (λ ticket. not (goes c.args.going.now ticket))) none)

pub release-requires-clause-held : goal.release-requires-clause-held
release-requires-clause-held g c =
    let kept = c.tickets-tickets.result.now in
    let inside : c.loop-at.at ≤ length kept = omega (arith, c.loop-at.auto.at) in
    holds-here (goes c.args.going.now) kept c.loop-at.at c.loop-at-test.true inside (g.S.LockSpace.own c.loop-at.space c.args.who) c.loop-at.invariant.held

pub loop-at-preserved-then-names : goal.loop-at-preserved-then-names
loop-at-preserved-then-names g c =
    let p = goes c.args.going.now in
    let kept = c.tickets-tickets.result.now in
    let at = c.loop-at.at in
    let more = c.loop-at-test.true in
    let inside : at ≤ length kept = omega (arith, c.loop-at.auto.at) in
    let now : SessionLocks = g.S.LockSpace.own c.loop-at.space c.args.who in
    let known = c.loop-at.invariant in
    let goes_now = sym c.names.ensures ∙ c.if-names.true in
    record {
      speaks = c.release.ensures.speaks;
      remembers = λ place key knew. c.release.ensures.remembers place key (known.remembers place key knew);
      run = λ b rest. known.run b (run-goes p kept at more inside g.S.LockSpace.joins c.args.who c.loop-at.space c.release.new.space b goes_now c.release.ensures.released rest);
      held = ap (λ (own : SessionLocks). own.held) c.release.ensures.own
          ∙ held-goes p kept at more inside now (g.met.S.LockSpace.laws.rising _ _ known.speaks) known.held goes_now;
      wait = ap (λ (own : SessionLocks). own.wait) c.release.ensures.own ∙ known.wait;
      pins = ap (λ (own : SessionLocks). own.pins) c.release.ensures.own ∙ known.pins;
    }

pub loop-at-preserved : goal.loop-at-preserved
loop-at-preserved g c =
    let p = goes c.args.going.now in
    let kept = c.tickets-tickets.result.now in
    let at = c.loop-at.at in
    let more = c.loop-at-test.true in
    let inside : at ≤ length kept = omega (arith, c.loop-at.auto.at) in
    let known = c.loop-at.invariant in
    let stays_now = sym c.names.ensures ∙ c.if-names.false in
    record {
      speaks = known.speaks;
      remembers = known.remembers;
      run = λ b rest. known.run b (run-stays p kept at more inside g.S.LockSpace.joins c.args.who c.loop-at.space b stays_now rest);
      held = known.held ∙ sym (ap (map held_of) (left-stays p kept at more inside stays_now));
      wait = known.wait;
      pins = known.pins;
    }
